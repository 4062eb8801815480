-- Labels in the order in which they come.
use Rattle.std.proofs.Common.{◌≡◌, ◌<◌, ◌≤◌, ℕ, suc, ◌+◌, not, Bool, true, false, cond, nat_lt, List, [], ◌∷◌, ◌++◌, length, map, Option, Some, None, Bor, refl, sym, ap, ◌∙◌, arith, length-append}
use Rattle.std.proofs.lemmas.List.{length-map, map-append}
use Rattle.std.specs.List.{position_or_len}
use Rattle.std.specs.Str.{bytes_eq}
use Rattle.std.proofs.lemmas.List.Folds.{position_or_len_push}
use Rattle.std.proofs.lemmas.List.Sums.{prefix_len-le-length}
use Rattle.std.proofs.lemmas.Bool.Decides.{nat_tests}
use lib.Dec.{eqb}
use Rattle.std.proofs.lemmas.Slice.Eq.{bytes_eq-Decides}
use Rattle.std.proofs.lemmas.Grind.{common_steps}
use Rattle.rls_script.specs.Plans.{found_at, place_in}

found_some_if : (b : Bool) (place p : ℕ) → Some p ≡ cond b (Some place) None → p ≡ place
found_some_if true place p is = cc
found_some_if false place p is = cc

-- it came, and this is where
pub found_some : (count place p : ℕ) → Some p ≡ found_at count place → p ≡ place
found_some count place p is = found_some_if (nat_lt place count) place p is

found_none_if : (b : Bool) (place count : ℕ) → nat_lt place count ≡ b → None ≡ cond b (Some place) None → count ≤ place
found_none_if true place count e is = cc
found_none_if false place count e is = grind (arith, nat_tests)

-- it hasn't come
pub found_none : (count place : ℕ) → None ≡ found_at count place → place ≤ count → count ≡ place
found_none count place is le = let ge : count ≤ place = found_none_if (nat_lt place count) place count refl is in omega arith

found_more_if : (b : Bool) (n more p place : ℕ) → more ≡ n + 1 → p ≤ n → place ≡ cond (eqb p n) (n + cond b 0 1) p → (b ≡ true → n ≤ p) → found_at more place ≡ cond b (Some n) (found_at n p)
found_more_if true n more p place is le at same = let e : p ≡ n = omega (arith, same refl) in grind (arith, nat_tests, common_steps)
found_more_if false n more p place is le at same = grind (arith, nat_tests, common_steps)

bytes_eq_is : (xs ys : List ℕ) → bytes_eq xs ys ≡ true → xs ≡ ys
bytes_eq_is xs ys e = (bytes_eq-Decides xs ys).0 e

-- the places where all labels stand, with one more, which hadn't come
pub found_more : (names : List (List ℕ)) (name other : List ℕ) → length names ≤ place_in names name → found_at (length (names ++ name ∷ [])) (place_in (names ++ name ∷ []) other) ≡ cond (bytes_eq name other) (Some (length names)) (found_at (length names) (place_in names other))
found_more names name other new =
    let test = λ (it : List ℕ). bytes_eq it other in
    let same : bytes_eq name other ≡ true → length names ≤ place_in names other = λ e. rw (bytes_eq_is name other e) at new in
    found_more_if (bytes_eq name other) (length names) _ (place_in names other) _ (length-append names (name ∷ [])) (prefix_len-le-length (λ x. not (test x)) names) (position_or_len_push test names name) same

-- a map with the place of each label has the new one's too
pub found_put : (items : List (Bor (List ℕ))) (name : Bor (List ℕ)) (other : List ℕ) (place : ℕ) (more : List (Bor (List ℕ))) (old new : Option ℕ) → more ≡ items ++ name ∷ [] → place ≡ place_in (map (λ n. n.now) items) name.now → length items ≤ place → new ≡ cond (bytes_eq name.now other) (Some place) old → old ≡ found_at (length items) (place_in (map (λ n. n.now) items) other)
    → new ≡ found_at (length more) (place_in (map (λ n. n.now) more) other)
found_put items name other place more old new grown is_place absent found is_old =
    let now = λ (n : Bor (List ℕ)). n.now in
    let names = map now items in
    let count : length names ≡ length items = length-map items now in
    let behind : length names ≤ place_in names name.now = omega (arith, count, absent, is_place) in
    let last : place ≡ length items = omega (arith, absent, is_place, count, prefix_len-le-length (λ x. not (bytes_eq x name.now)) names) in
    let mapped : map now more ≡ names ++ name.now ∷ [] = ap (map now) grown ∙ map-append now items (name ∷ []) in
    let counted : length more ≡ length (names ++ name.now ∷ []) = omega (arith, ap length grown, length-append items (name ∷ []), length-append names (name.now ∷ []), count) in
    let fact : found_at (length (names ++ name.now ∷ [])) (place_in (names ++ name.now ∷ []) other) ≡ cond (bytes_eq name.now other) (Some (length names)) (found_at (length names) (place_in names other)) = found_more names name.now other behind in
    let left : new ≡ cond (bytes_eq name.now other) (Some (length names)) (found_at (length names) (place_in names other)) = found ∙ (ap (λ z. cond (bytes_eq name.now other) (Some place) z) (is_old ∙ ap (λ z. found_at z (place_in names other)) (sym count)) ∙ ap (λ z. cond (bytes_eq name.now other) (Some z) (found_at (length names) (place_in names other))) (last ∙ sym count)) in
    left ∙ (sym fact ∙ (ap (λ z. found_at z (place_in (names ++ name.now ∷ []) other)) (sym counted) ∙ ap (λ z. found_at (length more) (place_in z other)) (sym mapped)))
