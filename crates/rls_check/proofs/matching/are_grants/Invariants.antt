use Rattle.std.proofs.Common.{◌≡◌, ◌↔◌, length, map}
use Rattle.rls_audit.specs.Lines.{grant_shape}
use Rattle.rls_check.proofs.matching.are_grants.Given as goal

-- what is left decides
abbrev pub invariant-loop-grant : goal.invariant-loop-grant
invariant-loop-grant l = (l.shapes ≡ map grant_shape l.left) ↔ (l.fn.shapes ≡ map grant_shape l.grants)

abbrev pub decreases-loop-grant : goal.decreases-loop-grant
decreases-loop-grant l = length l.left
