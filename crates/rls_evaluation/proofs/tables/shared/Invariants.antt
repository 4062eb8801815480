use Rattle.std.proofs.Common.{◌≡◌, take}
use Rattle.rls_evaluation.specs.Showing.{values_of}
use Rattle.rls_evaluation.proofs.tables.shared.Given as goal

-- the rows passed are copied
abbrev pub invariant-loop-row : goal.invariant-loop-row
invariant-loop-row l = l.copies.items ≡ values_of (take l.row-index l.rows)
