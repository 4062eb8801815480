-- States that agree on two lists of objects agree on each.
use Rattle.std.specs.Prelude.{List, [], ◌∷◌, ◌++◌}
use Rattle.rls_expr.specs.rls_value.specs.declared.object.Object.{Object}
use Rattle.rls_catalog.specs.State.{State, AgreesOn}

-- agreement on two lists is agreement on each
pub agrees-append : (s other : State) (objects more : List Object)
    → AgreesOn s other (objects ++ more)
    → AgreesOn s other objects × AgreesOn s other more
agrees-append s other [] more agrees = (tt, agrees)
agrees-append s other (object ∷ objects) more agrees =
    ((agrees.0, (agrees-append s other objects more agrees.1).0), (agrees-append s other objects more agrees.1).1)
