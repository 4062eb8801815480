use Rattle.rls_explain.proofs.OutcomeLemmas.{delete_told, insert_told_meant, select_told, update_told_meant}
use Rattle.rls_explain.proofs.outcome_laws.outcomes_found.Goals as goal

pub returns-clause-select : goal.returns-clause-select
returns-clause-select c = select_told (record { expanded = c.expansion_means.ensures; row_check = c.role_means.ensures.row_check; taken = c.expression_taken.ensures })

pub returns-clause-insert : goal.returns-clause-insert
returns-clause-insert c = insert_told_meant (record { expanded = c.expansion_means.ensures; row_check = c.role_means.ensures.row_check; taken = c.expression_taken.ensures })

pub returns-clause-update : goal.returns-clause-update
returns-clause-update c = update_told_meant (record { expanded = c.expansion_means.ensures; row_check = c.role_means.ensures.row_check; taken = c.expression_taken.ensures })

pub returns-clause-delete : goal.returns-clause-delete
returns-clause-delete c = delete_told (record { expanded = c.expansion_means.ensures; row_check = c.role_means.ensures.row_check; taken = c.expression_taken.ensures })
