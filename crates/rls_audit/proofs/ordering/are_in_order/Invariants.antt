use Rattle.std.proofs.Common.{◌≡◌, length}
use Rattle.rls_audit.specs.Ordered.{is_in_order}
use Rattle.rls_audit.proofs.ordering.are_in_order.Given as goal

-- all are in order where those that are left are
abbrev pub invariant-loop-rest : goal.invariant-loop-rest
invariant-loop-rest l = is_in_order l.changes ≡ is_in_order l.rest

abbrev pub decreases-loop-rest : goal.decreases-loop-rest
decreases-loop-rest l = length l.rest
