use Rattle.std.proofs.Common.{◌≡◌, drop}
use Rattle.rls_grant.specs.Revoking.{without_from}
use Rattle.rls_grant.proofs.revoking.drop_from.Given as goal

-- what is left leads to the whole
abbrev pub invariant-loop-grantee : goal.invariant-loop-grantee
invariant-loop-grantee l = without_from l.revoke l.grantor (drop l.grantee-index l.grantees) l.rest ≡ without_from l.revoke l.grantor l.grantees l.fn.grants
