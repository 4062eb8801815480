use Rattle.std.proofs.Common.{◌≡◌, drop}
use Rattle.std.specs.List.{list_any}
use Rattle.rls_value.specs.Values.{is_null}
use Rattle.rls_evaluation.proofs.keys.has_null.Given as goal

-- the values passed aren't null: what is left decides
abbrev pub invariant-loop-value : goal.invariant-loop-value
invariant-loop-value l = list_any is_null (drop l.value-index l.values) ≡ list_any is_null l.values
