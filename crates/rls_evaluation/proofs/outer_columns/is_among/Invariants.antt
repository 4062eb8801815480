use Rattle.std.proofs.Common.{◌≡◌, drop}
use Rattle.rls_evaluation.specs.OuterColumns.{is_among}
use Rattle.rls_evaluation.proofs.outer_columns.is_among.Given as goal

-- the columns passed are others: what is left decides
abbrev pub invariant-loop-outer : goal.invariant-loop-outer
invariant-loop-outer l = is_among (drop l.outer-index l.columns) l.level l.column ≡ is_among l.columns l.level l.column
