use Rattle.std.proofs.Common.{◌≡◌, ◌++◌}
use Rattle.rls_audit.proofs.copying.copies.Given as goal

-- the copies, and the items that are left, are all
abbrev pub invariant-loop-item : goal.invariant-loop-item
invariant-loop-item g l = l.copies.items ++ l.item-iterator ≡ l.list
