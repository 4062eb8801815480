use Rattle.std.proofs.Common.{◌≡◌, ◌↔◌, length}
use Rattle.rls_equality.proofs.same.are_left_same.Given as goal

-- what is left decides
abbrev pub invariant-loop-first : goal.invariant-loop-first
invariant-loop-first g l = (l.left ≡ l.right) ↔ (l.fn.left ≡ l.fn.right)

abbrev pub decreases-loop-first : goal.decreases-loop-first
decreases-loop-first g l = length l.left
