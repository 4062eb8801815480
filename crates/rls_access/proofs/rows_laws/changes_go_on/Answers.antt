use Rattle.rls_dml.specs.Deleting.{delete}
use Rattle.rls_dml.specs.Inserting.{insert}
use Rattle.rls_dml.specs.Updating.{update}
use Rattle.rls_access.proofs.LeavingLemmas.{RowsGoOn, WriteNoRows, all_go_on, step_goes_on}
use Rattle.rls_access.proofs.rows_laws.changes_go_on.Goals as goal

-- by the laws of each kind of statement
pub returns : goal.returns
returns c =
    let none : WriteNoRows = record {
      create_role = c.roles_and_policies_leave_rows.ensures.create_role;
      alter_role = c.roles_and_policies_leave_rows.ensures.alter_role;
      create_table = c.tables_leave_rows.ensures.create_table;
      alter_table = c.tables_leave_rows.ensures.alter_table;
      create_policy = c.roles_and_policies_leave_rows.ensures.create_policy;
      alter_policy = c.roles_and_policies_leave_rows.ensures.alter_policy;
      drop_policy = c.roles_and_policies_leave_rows.ensures.drop_policy;
      grant = c.grants_leave_rows.ensures.grant;
      grant_roles = c.grants_leave_rows.ensures.grant_roles;
      revoke = c.grants_leave_rows.ensures.revoke;
      revoke_roles = c.grants_leave_rows.ensures.revoke_roles;
      set_role = c.roles_and_policies_leave_rows.ensures.set_role;
      select = c.rows_stay_sound.ensures.select;
    } in
    let rows : RowsGoOn = record {
      insert = λ s ctx asked free. all_go_on s ctx ((insert ctx asked).in_state s).gives (c.changes_fit.ensures.insert s ctx asked free) (c.rows_are_numbered_on.ensures.insert s ctx asked) (c.numbers_stay_in_range.ensures.insert s ctx asked);
      update = λ s ctx asked sound. all_go_on s ctx ((update ctx asked).in_state s).gives (c.changes_fit.ensures.update s ctx asked (c.sound_rows_mean.ensures.order s asked.table sound)) (c.rows_are_numbered_on.ensures.update s ctx asked sound) (c.numbers_stay_in_range.ensures.update s ctx asked sound);
      delete = λ s ctx asked sound. all_go_on s ctx ((delete ctx asked).in_state s).gives (c.changes_fit.ensures.delete s ctx asked (c.sound_rows_mean.ensures.order s asked.table sound)) (c.rows_are_numbered_on.ensures.delete s ctx asked) (c.numbers_stay_in_range.ensures.delete s ctx asked);
    } in
    step_goes_on none rows
