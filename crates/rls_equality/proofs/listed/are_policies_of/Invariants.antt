use Rattle.std.proofs.Common.{◌≡◌, ◌↔◌, length}
use Rattle.rls_equality.proofs.listed.are_policies_of.Given as goal

-- what is left decides
abbrev pub invariant-loop-policy : goal.invariant-loop-policy
invariant-loop-policy l = (l.policies ≡ l.left) ↔ (l.fn.policies ≡ l.list)

abbrev pub decreases-loop-policy : goal.decreases-loop-policy
decreases-loop-policy l = length l.left
