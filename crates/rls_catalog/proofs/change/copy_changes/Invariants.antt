use Rattle.std.proofs.Common.{◌≡◌, take}
use Rattle.rls_catalog.proofs.change.copy_changes.Given as goal

-- the first are copied
abbrev pub invariant-loop-change : goal.invariant-loop-change
invariant-loop-change l = l.copies.items ≡ take l.change-index l.changes
