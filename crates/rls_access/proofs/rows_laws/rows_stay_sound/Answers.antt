use Rattle.rls_access.proofs.LeavingLemmas.{KeepEachTable, KeepRows, WriteNoRows, step_sound, step_tables}
use Rattle.rls_access.proofs.rows_laws.rows_stay_sound.Goals as goal

-- by the laws of each kind of statement
pub returns-clause-step : goal.returns-clause-step
returns-clause-step c =
    let none : WriteNoRows = record {
      create_role = c.roles_and_policies_leave_rows.ensures.create_role;
      alter_role = c.roles_and_policies_leave_rows.ensures.alter_role;
      create_table = c.tables_leave_rows.ensures.create_table;
      alter_table = c.tables_leave_rows.ensures.alter_table;
      create_policy = c.roles_and_policies_leave_rows.ensures.create_policy;
      alter_policy = c.roles_and_policies_leave_rows.ensures.alter_policy;
      drop_policy = c.roles_and_policies_leave_rows.ensures.drop_policy;
      grant = c.grants_leave_rows.ensures.grant;
      grant_roles = c.grants_leave_rows.ensures.grant_roles;
      revoke = c.grants_leave_rows.ensures.revoke;
      revoke_roles = c.grants_leave_rows.ensures.revoke_roles;
      set_role = c.roles_and_policies_leave_rows.ensures.set_role;
      select = c.rows_stay_sound.ensures.select;
    } in
    let rows : KeepRows = record { insert = c.rows_stay_sound.ensures.insert; update = c.rows_stay_sound.ensures.update; delete = c.rows_stay_sound.ensures.delete } in
    step_sound none rows

pub returns-clause-tables : goal.returns-clause-tables
returns-clause-tables c =
    let none : WriteNoRows = record {
      create_role = c.roles_and_policies_leave_rows.ensures.create_role;
      alter_role = c.roles_and_policies_leave_rows.ensures.alter_role;
      create_table = c.tables_leave_rows.ensures.create_table;
      alter_table = c.tables_leave_rows.ensures.alter_table;
      create_policy = c.roles_and_policies_leave_rows.ensures.create_policy;
      alter_policy = c.roles_and_policies_leave_rows.ensures.alter_policy;
      drop_policy = c.roles_and_policies_leave_rows.ensures.drop_policy;
      grant = c.grants_leave_rows.ensures.grant;
      grant_roles = c.grants_leave_rows.ensures.grant_roles;
      revoke = c.grants_leave_rows.ensures.revoke;
      revoke_roles = c.grants_leave_rows.ensures.revoke_roles;
      set_role = c.roles_and_policies_leave_rows.ensures.set_role;
      select = c.rows_stay_sound.ensures.select;
    } in
    let rows : KeepEachTable = record { insert = c.tables_stay.ensures.insert; update = c.tables_stay.ensures.update; delete = c.tables_stay.ensures.delete } in
    step_tables none rows
