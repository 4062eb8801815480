use Rattle.std.proofs.Common.{length}
use Rattle.rls_verdict.specs.rls_catalog.specs.GrantOptions.{GrantorsHold}
use Rattle.rls_grant.proofs.known.hold_all.Given as goal

-- where those that are left hold it, all do
abbrev pub invariant-loop-new : goal.invariant-loop-new
invariant-loop-new l = GrantorsHold l.owner l.grants l.new → GrantorsHold l.owner l.grants l.fn.new

abbrev pub decreases-loop-new : goal.decreases-loop-new
decreases-loop-new l = length l.new
