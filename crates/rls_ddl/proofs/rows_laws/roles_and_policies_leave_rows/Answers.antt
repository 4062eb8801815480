use Rattle.rls_ddl.proofs.RowsLeftLemmas.{create_role_leaves, alter_role_leaves, set_role_leaves, create_policy_leaves, alter_policy_leaves, drop_policy_leaves}
use Rattle.rls_ddl.proofs.rows_laws.roles_and_policies_leave_rows.Goals as goal

pub returns-clause-create_role : goal.returns-clause-create_role
returns-clause-create_role c = create_role_leaves

pub returns-clause-alter_role : goal.returns-clause-alter_role
returns-clause-alter_role c = alter_role_leaves

pub returns-clause-set_role : goal.returns-clause-set_role
returns-clause-set_role c = set_role_leaves

pub returns-clause-create_policy : goal.returns-clause-create_policy
returns-clause-create_policy c = create_policy_leaves

pub returns-clause-alter_policy : goal.returns-clause-alter_policy
returns-clause-alter_policy c = alter_policy_leaves

pub returns-clause-drop_policy : goal.returns-clause-drop_policy
returns-clause-drop_policy c = drop_policy_leaves
