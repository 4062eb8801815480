use Rattle.std.proofs.Common.{◌≡◌, take}
use Rattle.rls_evaluation.proofs.cached_index.copies_of.Given as goal

-- the rows passed
abbrev pub invariant-loop-row : goal.invariant-loop-row
invariant-loop-row l = l.copies.items ≡ take l.row-index l.rows
