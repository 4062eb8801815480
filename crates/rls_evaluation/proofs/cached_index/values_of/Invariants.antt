use Rattle.std.proofs.Common.{◌≡◌, take}
use Rattle.rls_evaluation.specs.Matching.{values_in}
use Rattle.rls_evaluation.proofs.cached_index.values_of.Given as goal

-- the values of the columns passed
abbrev pub invariant-loop-column : goal.invariant-loop-column
invariant-loop-column l = l.values.items ≡ values_in (take l.column-index l.columns) l.row
