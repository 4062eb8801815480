use Rattle.std.proofs.Common.{◌≡◌, ◌≤◌, drop, length}
use Rattle.rls_audit.specs.Lines.{in_object_order}
use Rattle.rls_audit.proofs.ordering.in_order.Given as goal

-- those behind stand in order
abbrev pub invariant-loop-left : goal.invariant-loop-left
invariant-loop-left l = (l.ordered.items ≡ in_object_order (drop l.left l.changes)) × (l.left ≤ length l.changes)

abbrev pub decreases-loop-left : goal.decreases-loop-left
decreases-loop-left l = l.left
