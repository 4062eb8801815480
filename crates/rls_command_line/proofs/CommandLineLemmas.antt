-- What the words of a command line ask for, from what `clap` cuts them into.
use Rattle.std.proofs.Common.{◌≡◌, refl, ℕ, true, List, Option, Some, None, map, option_map, Result, Ok, Err, IfErr, IsErrAnd, Bor, sym, subst, ap, ap₂, ◌∙◌}
use Rattle.clap.proofs.WalkLemmas.{raw_values-rows}
use Rattle.clap.specs.Words.{App, Row, Text, all_of, found_of, is_simple, kind_of, matched_of, raw_values, rows_of, subcommand_name_of, subcommand_of, subcommand_rows, takes}
use Rattle.clap.specs.Simple.{HasMatchesOf, subcommand_rows_of}
use Rattle.clap.specs.declared.error.Error.{Error}
use Rattle.clap.specs.declared.error.kind.ErrorKind.TheVariants.{OutOfMemory}
use Rattle.clap.specs.declared.parser.matches.ArgMatches.{ArgMatches}
use Rattle.clap.specs.declared.parser.matches.ArgMatches.TheViews.{out-ArgMatches}
use Rattle.rls_command_line.specs.declared.command_line.Mistake.{Mistake}
use Rattle.rls_command_line.specs.declared.command_line.Mistake.TheVariants as m
use Rattle.rls_command_line.specs.CommandLine.{IsMistaken, IsOfMemory, IsOwn, command_line}

some_is : {A : Type 0} (x y : A) → ◌≡◌ {A = Option A} (Some x) (Some y) → x ≡ y
some_is x y same = cc

-- a pair, where both of its parts are known
pair_is : {A B : Type 0} (found : Option (A × B)) (a : A) (b : B) → Some a ≡ option_map (λ p. p.0) found → Some b ≡ option_map (λ p. p.1) found → found ≡ Some (a, b)
pair_is None a b first second = cc
pair_is (Some p) a b first second = ap₂ (λ x y. Some (x, y)) (sym (some_is a p.0 first)) (sym (some_is b p.1 second))

named_is : {X A B : Type 0} (f : X → A) (g : X → B) (o : Option X) → option_map f o ≡ option_map (λ (p : A × B). p.0) (option_map (λ x. (f x, g x)) o)
named_is f g None = refl
named_is f g (Some x) = refl

-- the command that was named, with its words
pub found_is : (matches : ArgMatches) (app : App) (words : List Text) (name : Text) (rows : List Row) → app ≡ command_line → HasMatchesOf app words matches → Some name ≡ subcommand_name_of matches → Some rows ≡ option_map (λ p. p.1) (subcommand_rows (out-ArgMatches matches).subcommand)
    → subcommand_of command_line words ≡ Some (name, rows)
found_is matches app words name rows is has is_name are_rows =
    sym (ap (λ (it : App). subcommand_of it words) is) ∙ (sym (has (ap is_simple is)).1
    ∙ pair_is (subcommand_rows_of matches) name rows (is_name ∙ named_is _ _ (out-ArgMatches matches).subcommand) are_rows)

-- all of an argument's values, of which equal ones were kept
pub all_given : (matches : ArgMatches) (id : Text) (names files : List (Bor (List ℕ))) → (((x y : Bor (List ℕ)) → y ≡ x → y ≡ x) → files ≡ names) → Some (map (λ v. v.now) names) ≡ option_map raw_values (matched_of (found_of matches) id) → all_of id (rows_of (found_of matches)) ≡ Some (map (λ name. name.now) files)
all_given matches id names files law are = sym (raw_values-rows (found_of matches) id) ∙ (sym are ∙ ap (λ (them : List (Bor (List ℕ))). Some (map (λ v. v.now) them)) (sym (law (λ x y same. same))))

-- what `clap` finds wrong
pub unread : {A : Type 0} (r : Result A Mistake) (error : Error) (app : App) (words : List Text) → app ≡ command_line → (takes app words ≡ true → kind_of error ≡ OutOfMemory) → IsErrAnd r (λ mistake. mistake ≡ m.Words error)
    → IfErr r (IsMistaken words)
unread (Ok it) error app words same passes is = tt
unread (Err mistake) error app words same passes is =
    subst (IsMistaken words) (sym is) (λ taken. passes (subst (λ (it : App). takes it words ≡ true) (sym same) taken))

-- want of memory is a mistake in any words
pub of_memory : (words : List Text) (mistake : Mistake) → IsOfMemory mistake → IsMistaken words mistake
of_memory words (m.Words error) is = λ taken. is
of_memory words (m.Value argument value wanted) is = tt
of_memory words (m.Together one other) is = tt
of_memory words m.Nothing is = tt

-- and one that `clap` didn't find
pub own : (words : List Text) (mistake : Mistake) → IsOwn mistake → IsMistaken words mistake
own words (m.Words error) is = λ taken. is
own words (m.Value argument value wanted) is = tt
own words (m.Together one other) is = tt
own words m.Nothing is = tt
