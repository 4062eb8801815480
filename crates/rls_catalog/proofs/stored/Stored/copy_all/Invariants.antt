use Rattle.std.proofs.Common.{◌≡◌, take}
use Rattle.rls_catalog.proofs.stored.Stored.copy_all.Given as goal

-- the first are copied
abbrev pub invariant-loop-row : goal.invariant-loop-row
invariant-loop-row l = l.copies.items ≡ take l.row-index l.rows
