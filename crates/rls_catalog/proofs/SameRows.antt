-- Rows have the same values exactly where they are the same.
use Rattle.std.specs.Prelude.{◌≡◌, refl, List, [], ◌∷◌, Bool, true, false, ◌&&◌}
use Rattle.std.proofs.Common.{ap, sym, ◌∙◌}
use Rattle.std.proofs.lemmas.Bool.{true≢false}
use Rattle.std.proofs.lemmas.Bool.Decides.{Decides-int_eq}
use Rattle.rls_expr.specs.rls_value.specs.declared.value.Value.{Value}
use Rattle.rls_expr.specs.rls_value.specs.declared.value.Value.TheVariants as v
use Rattle.rls_expr.specs.rls_value.specs.Values.{same_flag}
use Rattle.rls_catalog.specs.State.{is_same_row, is_same_value}
use Rattle.rls_catalog.proofs.Walks.{bytes_same, bytes_own}

no : {A : Type 0} → false ≡ true → A
no is = absurd (true≢false (sym is))

both : (a b : Bool) → (a && b) ≡ true → (a ≡ true) × (b ≡ true)
both true b is = (refl, is)
both false b is = no is

same_flags : (a b : Bool) → same_flag a b ≡ true → a ≡ b
same_flags true true is = refl
same_flags true false is = absurd (true≢false (sym is))
same_flags false true is = absurd (true≢false (sym is))
same_flags false false is = refl

same_one : (x y : Value) → is_same_value x y ≡ true → x ≡ y
same_one (v.Int a) (v.Int b) is = ap v.Int ((Decides-int_eq a b).0 is)
same_one (v.Text a) (v.Text b) is = ap v.Text (bytes_same a b is)
same_one (v.Bool a) (v.Bool b) is = ap v.Bool (same_flags a b is)
same_one v.Null v.Null is = refl
same_one v.Null (v.Int b) is = no is
same_one v.Null (v.Text b) is = no is
same_one v.Null (v.Bool b) is = no is
same_one (v.Int a) v.Null is = no is
same_one (v.Int a) (v.Text b) is = no is
same_one (v.Int a) (v.Bool b) is = no is
same_one (v.Text a) v.Null is = no is
same_one (v.Text a) (v.Int b) is = no is
same_one (v.Text a) (v.Bool b) is = no is
same_one (v.Bool a) v.Null is = no is
same_one (v.Bool a) (v.Int b) is = no is
same_one (v.Bool a) (v.Text b) is = no is

-- rows with the same values are the same
pub same_row : (xs ys : List Value) → is_same_row xs ys ≡ true → xs ≡ ys
same_row [] [] is = refl
same_row [] (y ∷ ys) is = no is
same_row (x ∷ xs) [] is = no is
same_row (x ∷ xs) (y ∷ ys) is =
    let parts = both (is_same_value x y) (is_same_row xs ys) is in
    λ i. same_one x y parts.0 i ∷ same_row xs ys parts.1 i

own_flag : (a : Bool) → same_flag a a ≡ true
own_flag true = refl
own_flag false = refl

own_one : (x : Value) → is_same_value x x ≡ true
own_one v.Null = refl
own_one (v.Int a) = (Decides-int_eq a a).1 refl
own_one (v.Text a) = bytes_own a
own_one (v.Bool a) = own_flag a

-- a row has the values of its own
pub own_row : (xs : List Value) → is_same_row xs xs ≡ true
own_row [] = refl
own_row (x ∷ xs) = ap (λ b. b && is_same_row xs xs) (own_one x) ∙ own_row xs
