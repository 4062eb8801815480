use Rattle.std.proofs.Common.{◌≡◌, drop}
use Rattle.std.specs.List.{list_any}
use Rattle.rls_meaning.specs.rls_guard.specs.rls_catalog.specs.Privileges.{includes}
use Rattle.rls_explain.proofs.reasons.is_to.Given as goal

-- none of those so far includes the role
abbrev pub invariant-loop-grantee : goal.invariant-loop-grantee
invariant-loop-grantee l =
    let test = includes l.role_privileges.effective_roles.superuser l.role_privileges.effective_roles.names in
    list_any test (drop l.grantee-index l.policy.to) ≡ list_any test l.policy.to
