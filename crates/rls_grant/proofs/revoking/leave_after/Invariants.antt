use Rattle.std.proofs.Common.{◌≡◌, drop}
use Rattle.rls_grant.specs.Revoking.{left_after}
use Rattle.rls_grant.proofs.revoking.leave_after.Given as goal

-- what is left leads to the whole
abbrev pub invariant-loop-grantor : goal.invariant-loop-grantor
invariant-loop-grantor l = left_after l.cascade l.table l.owner l.grantors l.fn.grants ≡ left_after l.cascade l.table l.owner (drop l.grantor-index l.grantors) l.left
