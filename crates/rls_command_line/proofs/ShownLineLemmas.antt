-- The values of an option, one after another.
use Rattle.std.proofs.Common.{◌≡◌, refl, ℕ, ◌<◌, List, [], ◌∷◌, ◌++◌, Option, Some, None, Bor, arith, ap, sym, subst, ◌∙◌, append_assoc, append-nil, length, map, option_map, unwrap_or}
use Rattle.std.specs.List.{AllZip}
use Rattle.clap.proofs.WalkLemmas.{raw_values-rows}
use Rattle.clap.specs.Words.{Text, all_of, found_of, matched_of, raw_values, rows_of}
use Rattle.clap.specs.declared.parser.matches.ArgMatches.{ArgMatches}

-- where whatever belongs to those that are left completes the list, it does so once the next one is taken
pub zip_on : {A B : Type 0} (R : A → B → Type 0) (x : A) (y : B) (before left whole : List A) (so_far again : List B) → before ≡ x ∷ left → again ≡ so_far ++ y ∷ [] → R x y
    → ((more : List B) → AllZip R before more → AllZip R whole (so_far ++ more)) → (more : List B) → AllZip R left more → AllZip R whole (again ++ more)
zip_on R x y before left whole so_far again are grew is completes more zipped =
    subst (λ ys. AllZip R whole (ys ++ more)) (sym grew) (subst (AllZip R whole) (sym (append_assoc so_far (y ∷ []) more)) (completes (y ∷ more) (subst (λ xs. AllZip R xs (y ∷ more)) (sym are) (is, zipped))))

-- and where none is left, it is complete
pub zip_all : {A B : Type 0} (R : A → B → Type 0) (left whole : List A) (so_far : List B) → left ≡ [] → ((more : List B) → AllZip R left more → AllZip R whole (so_far ++ more)) → AllZip R whole so_far
zip_all R left whole so_far none completes = subst (AllZip R whole) (append-nil so_far) (completes [] (subst (λ xs. AllZip R xs []) (sym none) tt))

pub none_left : {A B : Type 0} (f : A → B) (xs : List A) → length xs < 1 → map f xs ≡ []
none_left f [] less = refl
none_left f (x ∷ xs) less = absurd (omega (arith, less))

-- the values that are given are all that the option has
pub are_given : (matches : ArgMatches) (id : Text) (texts : List (Bor (List ℕ))) → Some (map (λ v. v.now) texts) ≡ option_map raw_values (matched_of (found_of matches) id) → map (λ v. v.now) texts ≡ unwrap_or (all_of id (rows_of (found_of matches))) []
are_given matches id texts are = ap (λ (given : Option (List Text)). unwrap_or given []) (are ∙ raw_values-rows (found_of matches) id)

-- and where none is given it has none
pub none_given : (matches : ArgMatches) (id : Text) → None ≡ option_map raw_values (matched_of (found_of matches) id) → [] ≡ unwrap_or (all_of id (rows_of (found_of matches))) []
none_given matches id are = ap (λ (given : Option (List Text)). unwrap_or given []) (are ∙ raw_values-rows (found_of matches) id)
