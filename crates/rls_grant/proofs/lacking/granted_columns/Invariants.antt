use Rattle.std.proofs.Common.{◌≡◌, ◌++◌}
use Rattle.rls_grant.specs.Missing.{columns_on, reaches}
use Rattle.rls_grant.proofs.lacking.granted_columns.Given as goal

-- what is left leads to the whole
abbrev pub invariant-loop-grant : goal.invariant-loop-grant
invariant-loop-grant l = l.granted ++ columns_on (reaches l.effective_roles.superuser l.effective_roles.names l.privilege) l.grant-iterator ≡ columns_on (reaches l.effective_roles.superuser l.effective_roles.names l.privilege) l.grants
