use Rattle.rls_ddl.proofs.RowsLeftLemmas.{grant_leaves, revoke_leaves, grant_roles_leaves, revoke_roles_leaves}
use Rattle.rls_ddl.proofs.rows_laws.grants_leave_rows.Goals as goal

pub returns-clause-grant : goal.returns-clause-grant
returns-clause-grant c = grant_leaves

pub returns-clause-revoke : goal.returns-clause-revoke
returns-clause-revoke c = revoke_leaves

pub returns-clause-grant_roles : goal.returns-clause-grant_roles
returns-clause-grant_roles c = grant_roles_leaves

pub returns-clause-revoke_roles : goal.returns-clause-revoke_roles
returns-clause-revoke_roles c = revoke_roles_leaves
