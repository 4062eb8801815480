use Rattle.std.proofs.Common.{◌≡◌, length}
use Rattle.rls_judging.proofs.alike.are_same_conditions.Given as goal

-- what is left decides
abbrev pub invariant-loop-left : goal.invariant-loop-left
invariant-loop-left l = l.left ≡ l.right → l.fn.left ≡ l.fn.right

abbrev pub decreases-loop-left : goal.decreases-loop-left
decreases-loop-left l = length l.left
