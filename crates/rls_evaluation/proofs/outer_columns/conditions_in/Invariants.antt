use Rattle.std.proofs.Common.{◌≡◌, drop}
use Rattle.rls_evaluation.specs.OuterColumns.{conditions_in, is_among}
use Rattle.rls_evaluation.proofs.outer_columns.conditions_in.Given as goal

-- the conditions passed name no others: what is left decides
abbrev pub invariant-loop-condition : goal.invariant-loop-condition
invariant-loop-condition l = conditions_in (is_among l.columns) (drop l.condition-index l.conditions) ≡ conditions_in (is_among l.columns) l.conditions
