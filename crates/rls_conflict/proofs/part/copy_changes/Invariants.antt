use Rattle.std.proofs.Common.{◌≡◌, take}
use Rattle.rls_conflict.proofs.part.copy_changes.Given as goal

-- the first are copied
abbrev pub invariant-loop-change : goal.invariant-loop-change
invariant-loop-change l = l.copies.items ≡ take l.change-index l.changes
