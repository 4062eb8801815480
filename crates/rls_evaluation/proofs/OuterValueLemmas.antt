-- Lists of one value each are compared as the values are.
use Rattle.std.proofs.Common.{◌≡◌, refl, [], ◌∷◌}
use Rattle.std.specs.Cmp.Lexicographic.{slice_cmp}
use Rattle.std.specs.Ordering.{ordering_then}
use Rattle.std.specs.declared.cmp.Ordering.{Ordering}
use Rattle.std.specs.declared.cmp.Ordering.TheVariants.{Less, Equal, Greater}
use Rattle.rls_value.specs.declared.value.Value.{Value}
use Rattle.rls_value.specs.Values.{listed}

then_equal : (order : Ordering) → ordering_then order Equal ≡ order
then_equal Less = refl
then_equal Equal = refl
then_equal Greater = refl

pub one_by_one : (x y : Value) → slice_cmp listed (x ∷ []) (y ∷ []) ≡ listed x y
one_by_one x y = then_equal (listed x y)
