use Rattle.std.proofs.Common.{◌≡◌, drop}
use Rattle.rls_grant.specs.Revoking.{without_by}
use Rattle.rls_grant.proofs.revoking.drop_taken.Given as goal

-- what is left leads to the whole
abbrev pub invariant-loop-grantor : goal.invariant-loop-grantor
invariant-loop-grantor l = without_by l.revoke (drop l.grantor-index l.grantors) l.rest ≡ without_by l.revoke l.grantors l.grants
