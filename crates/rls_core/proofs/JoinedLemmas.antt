-- Those that run, joined from the two parts that keep them.
use Rattle.std.specs.Prelude.{◌≡◌, refl, ℕ, suc, ◌==◌, nat_eq, Bool, true, false, cond, Option, Some, None, List, [], ◌∷◌, ◌++◌, map, length, unwrap_or, if◌then◌else◌}
use Rattle.std.specs.BTreeMap.{is_at}
use Rattle.std.specs.List.{find}
use Rattle.std.specs.Option.{option_map, is_some}
use Rattle.std.specs.Ordering.{nat_cmp, is_eq}
use Rattle.std.proofs.Common.{ap, sym, subst, ◌∙◌, arith, eqb-true, eq-eqb}
use Rattle.std.proofs.lemmas.Bool.Decides.{nat_tests}
use Rattle.std.proofs.lemmas.Option.{none-some}
use Rattle.rls_conflict.specs.Begun.{at_number}
use Rattle.rls_conflict.specs.Transactions.{Transaction, nobody}
use Rattle.rls_conflict.specs.Known.{Known, has_number, running_of, running_at, is_running}
use Rattle.rls_core.specs.Events.{Running, with_running}
use Rattle.rls_core.specs.Opened.{Opened, joined, Looks}
use Rattle.rls_core.specs.Kept.{joined_in}

pub tie : (a b : ℕ) → is_eq (nat_cmp a b) ≡ nat_eq a b
tie a b = grind (arith, nat_tests)

turned : (a b : ℕ) → nat_eq a b ≡ (b == a)
turned a b = grind (arith, nat_tests)

pub same_number : (a b : ℕ) → is_at (nat_cmp a) b ≡ true → a ≡ b
same_number a b is = eqb-true a b (sym (tie a b) ∙ is)

pub self_number : (a : ℕ) → is_at (nat_cmp a) a ≡ true
self_number a = tie a a ∙ eq-eqb a a refl

-- the one that a number finds
pub joined_at : (known : Known) (txn : ℕ) (opens : List (ℕ × Opened)) → at_number txn (map (joined_in known) opens) ≡ option_map (joined (running_at known txn)) (at_number txn opens)
joined_at known txn [] = refl
joined_at known txn (e ∷ es) = by_test (joined_at known txn es) (is_at (nat_cmp txn) e.0) refl
  where
    by_test : at_number txn (map (joined_in known) es) ≡ option_map (joined (running_at known txn)) (at_number txn es) → (b : Bool) → is_at (nat_cmp txn) e.0 ≡ b
        → cond b (Some (joined (running_at known e.0) e.1)) (at_number txn (map (joined_in known) es)) ≡ option_map (joined (running_at known txn)) (cond b (Some e.1) (at_number txn es))
    by_test rest true is = ap (λ (n : ℕ). Some (joined (running_at known n) e.1)) (sym (same_number txn e.0 is))
    by_test rest false is = rest

pub joined_there : (known : Known) (txn : ℕ) (opens : List (ℕ × Opened)) (it : Option Opened) → at_number txn opens ≡ it → at_number txn (map (joined_in known) opens) ≡ option_map (joined (running_at known txn)) it
joined_there known txn opens it is = joined_at known txn opens ∙ ap (option_map (joined (running_at known txn))) is

-- where the same transactions are known, the same is joined
pub same_joined : (known known' : Known) (opens : List (ℕ × Opened)) → ((txn : ℕ) → running_of known' txn ≡ running_of known txn) → map (joined_in known') opens ≡ map (joined_in known) opens
same_joined known known' [] same = refl
same_joined known known' (e ∷ es) same = λ k. (e.0, joined (unwrap_or (same e.0 k) nobody) e.1) ∷ same_joined known known' es same k

-- one becomes another, and all else stays
pub runs_then : (known known' : Known) (opens opens' : List (ℕ × Opened)) (txn : ℕ) (now : Option Opened) (t : Option Transaction)
    → ((other : ℕ) → running_of known' other ≡ (if nat_eq txn other then t else running_of known other)) → Looks txn now opens opens'
    → (λ q. at_number q (map (joined_in known') opens')) ≡ with_running txn (option_map (joined (unwrap_or t nobody)) now) (λ q. at_number q (map (joined_in known) opens))
runs_then known known' opens opens' txn now t becomes looks = λ k q. pointwise q k
  where
    both : (b : Bool) (r : Option Transaction) (o : Option Opened)
        → option_map (joined (unwrap_or (cond b t r) nobody)) (cond b now o) ≡ cond b (option_map (joined (unwrap_or t nobody)) now) (option_map (joined (unwrap_or r nobody)) o)
    both true r o = refl
    both false r o = refl

    pointwise : (q : ℕ) → at_number q (map (joined_in known') opens') ≡ cond (q == txn) (option_map (joined (unwrap_or t nobody)) now) (at_number q (map (joined_in known) opens))
    pointwise q =
        joined_at known' q opens'
        ∙ ap (option_map (joined (running_at known' q))) (looks q ∙ ap (λ (b : Bool). cond b now (at_number q opens)) (tie txn q))
        ∙ ap (λ (r : Option Transaction). option_map (joined (unwrap_or r nobody)) (cond (nat_eq txn q) now (at_number q opens))) (becomes q)
        ∙ both (nat_eq txn q) (running_of known q) (at_number q opens)
        ∙ ap (λ (b : Bool). cond b (option_map (joined (unwrap_or t nobody)) now) (option_map (joined (running_at known q)) (at_number q opens))) (turned txn q)
        ∙ ap (λ (o : Option Running). cond (q == txn) (option_map (joined (unwrap_or t nobody)) now) o) (sym (joined_at known q opens))

-- the one that is found has the number
pub found_number : (txn : ℕ) (all : List Transaction) (t : Transaction) → find (has_number txn) all ≡ Some t → t.number ≡ txn
found_number txn [] t is = absurd (none-some t is)
found_number txn (first ∷ all) t is = by_test (found_number txn all t) (has_number txn first) refl is
  where
    by_test : (find (has_number txn) all ≡ Some t → t.number ≡ txn) → (b : Bool) → has_number txn first ≡ b → cond b (Some first) (find (has_number txn) all) ≡ Some t → t.number ≡ txn
    by_test rest true is there = (let same : first ≡ t = cc in sym (eqb-true txn first.number is ∙ ap (λ (u : Transaction). u.number) same) ∙ refl)
    by_test rest false is there = rest there

-- one that runs is found
pub is_found : (known : Known) (txn : ℕ) → is_running known txn ≡ true → running_of known txn ≡ Some (running_at known txn)
is_found known txn is = by_found (running_of known txn) is
  where
    by_found : (o : Option Transaction) → is_some o ≡ true → o ≡ Some (unwrap_or o nobody)
    by_found None is = absurd cc
    by_found (Some t) is = refl

pub runs_number : (known : Known) (txn : ℕ) → is_running known txn ≡ true → (running_at known txn).number ≡ txn
runs_number known txn is = found_number txn known.running (running_at known txn) (is_found known txn is)

pub some_of : {X : Type 0} (o : Option X) → is_some o ≡ true → (x : X) × (o ≡ Some x)
some_of None is = absurd cc
some_of (Some x) is = (x, refl)

pub none_of : {X : Type 0} (o : Option X) → is_some o ≡ false → o ≡ None
none_of None is = refl
none_of (Some x) is = absurd cc

-- one that runs is kept under its number
pub held_there : (known : Known) (txn : ℕ) (opens : List (ℕ × Opened)) → is_some (at_number txn (map (joined_in known) opens)) ≡ true → (h : Opened) × (at_number txn opens ≡ Some h)
held_there known txn opens is = some_of (at_number txn opens) (sym (mapped (at_number txn opens)) ∙ sym (ap is_some (joined_at known txn opens)) ∙ is)
  where
    mapped : (o : Option Opened) → is_some (option_map (joined (running_at known txn)) o) ≡ is_some o
    mapped None = refl
    mapped (Some h) = refl
