use Rattle.rls_ddl.proofs.TablesLeftLemmas.{create_table_leaves, alter_table_leaves}
use Rattle.rls_ddl.proofs.rows_laws.tables_leave_rows.Goals as goal

pub returns-clause-create_table : goal.returns-clause-create_table
returns-clause-create_table c = create_table_leaves

pub returns-clause-alter_table : goal.returns-clause-alter_table
returns-clause-alter_table c = alter_table_leaves
