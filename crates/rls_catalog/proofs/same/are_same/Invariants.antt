use Rattle.std.proofs.Common.{◌≡◌, length}
use Rattle.rls_catalog.specs.State.{is_same_row}
use Rattle.rls_catalog.proofs.same.are_same.Given as goal

-- what is left decides
abbrev pub invariant-loop-left : goal.invariant-loop-left
invariant-loop-left l = is_same_row l.left l.right ≡ is_same_row l.fn.left l.fn.right

abbrev pub decreases-loop-left : goal.decreases-loop-left
decreases-loop-left l = length l.left
