use Rattle.std.proofs.Common.{◌≡◌, drop}
use Rattle.std.specs.List.{list_any}
use Rattle.rls_recursion.specs.rls_catalog.specs.Privileges.{includes}
use Rattle.rls_expansion.proofs.used.is_to.Given as goal

-- none of those so far includes the role
abbrev pub invariant-loop-grantee : goal.invariant-loop-grantee
invariant-loop-grantee l = list_any (includes l.effective_roles.superuser l.effective_roles.names) (drop l.grantee-index l.policy.to) ≡ list_any (includes l.effective_roles.superuser l.effective_roles.names) l.policy.to
