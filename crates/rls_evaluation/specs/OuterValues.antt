-- The values by which the answers of a subquery are kept.
use Rattle.std.specs.Prelude.{List, [], ◌∷◌}
use Rattle.rls_value.specs.declared.value.Value.{Value}
use Rattle.rls_evaluation.specs.declared.outer_values.Kept.{Kept}
use Rattle.rls_evaluation.specs.declared.outer_values.Kept.TheVariants as k

-- as a list
abbrev pub values_kept : Kept → List Value
values_kept (k.One value) = value ∷ []
values_kept (k.Many values) = values.items
