-- A list of names the other way round has the same names.
use Rattle.std.specs.Prelude.{◌≡◌, refl, ℕ, List, [], ◌∷◌, Bool, true, false, ◌||◌, reverse}
use mathlib.Core.List.{reverse_aux}
use Rattle.std.specs.Str.{bytes_eq}
use Rattle.std.proofs.Common.{◌∙◌}
use Rattle.std.proofs.Math.Bool.{or-false}
use Rattle.rls_value.specs.Names.{one_of}

or_between : (a b c : Bool) → (b || (a || c)) ≡ ((a || b) || c)
or_between true true c = refl
or_between true false c = refl
or_between false true c = refl
or_between false false c = refl

one_of_onto : (xs ys : List (List ℕ)) (t : List ℕ) → one_of (reverse_aux xs ys) t ≡ (one_of xs t || one_of ys t)
one_of_onto [] ys t = refl
one_of_onto (x ∷ xs) ys t = one_of_onto xs (x ∷ ys) t ∙ or_between (bytes_eq x t) (one_of xs t) (one_of ys t)

pub one_of_reversed : (xs : List (List ℕ)) (t : List ℕ) → one_of (reverse xs) t ≡ one_of xs t
one_of_reversed xs t = one_of_onto xs [] t ∙ or-false (one_of xs t)
