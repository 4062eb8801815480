use Rattle.std.proofs.Common.{◌≡◌, ◌↔◌, length}
use Rattle.rls_equality.proofs.listed.are_items_of.Given as goal

-- what is left decides
abbrev pub invariant-loop-item : goal.invariant-loop-item
invariant-loop-item g l = (l.items ≡ l.left) ↔ (l.fn.items ≡ l.list)

abbrev pub decreases-loop-item : goal.decreases-loop-item
decreases-loop-item g l = length l.left
