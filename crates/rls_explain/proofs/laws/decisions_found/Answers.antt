use Rattle.rls_explain.proofs.FoundLemmas.{delete_found, insert_found_meant, insert_has_room, select_found, update_found_meant}
use Rattle.rls_explain.proofs.laws.decisions_found.Goals as goal

pub returns-clause-select : goal.returns-clause-select
returns-clause-select c = select_found (record { expanded = c.expansion_means.ensures; row_check = c.role_means.ensures.row_check; taken = c.expression_taken.ensures })

pub returns-clause-insert : goal.returns-clause-insert
returns-clause-insert c = insert_found_meant (record { expanded = c.expansion_means.ensures; row_check = c.role_means.ensures.row_check; taken = c.expression_taken.ensures })

pub returns-clause-room : goal.returns-clause-room
returns-clause-room c = insert_has_room

pub returns-clause-update : goal.returns-clause-update
returns-clause-update c = update_found_meant (record { expanded = c.expansion_means.ensures; row_check = c.role_means.ensures.row_check; taken = c.expression_taken.ensures })

pub returns-clause-delete : goal.returns-clause-delete
returns-clause-delete c = delete_found (record { expanded = c.expansion_means.ensures; row_check = c.role_means.ensures.row_check; taken = c.expression_taken.ensures })
