use Rattle.std.proofs.Common.{◌≡◌, drop}
use Rattle.rls_role.specs.rls_source.specs.Sequences.{each_or_refused}
use Rattle.rls_grant.specs.Granting.{optioned_or_refused}
use Rattle.rls_grant.proofs.granting.require_each.Given as goal

-- what is left leads to the whole
abbrev pub invariant-loop-grantee : goal.invariant-loop-grantee
invariant-loop-grantee l = each_or_refused (optioned_or_refused l.owner l.grants l.grantors) l.grantees ≡ each_or_refused (optioned_or_refused l.owner l.grants l.grantors) (drop l.grantee-index l.grantees)
