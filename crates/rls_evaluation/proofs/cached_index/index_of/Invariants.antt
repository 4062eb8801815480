use Rattle.std.proofs.Common.{take}
use Rattle.rls_evaluation.specs.CachedIndexes.{IsIndexOf}
use Rattle.rls_evaluation.proofs.cached_index.index_of.Given as goal

-- it is the index of the rows passed
abbrev pub invariant-loop-row : goal.invariant-loop-row
invariant-loop-row l = IsIndexOf l.columns (take l.row-index l.rows) l.by_values.entries
