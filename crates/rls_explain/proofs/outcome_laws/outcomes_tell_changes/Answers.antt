use Rattle.rls_explain.proofs.OutcomeChangeLemmas.{delete_tells, insert_tells, refused_insert_tells, refused_update_tells, seen_tells, update_tells}
use Rattle.rls_explain.proofs.outcome_laws.outcomes_tell_changes.Goals as goal

pub returns-clause-update : goal.returns-clause-update
returns-clause-update c = update_tells

pub returns-clause-delete : goal.returns-clause-delete
returns-clause-delete c = delete_tells

pub returns-clause-insert : goal.returns-clause-insert
returns-clause-insert c = insert_tells

pub returns-clause-refused_update : goal.returns-clause-refused_update
returns-clause-refused_update c = refused_update_tells

pub returns-clause-refused_insert : goal.returns-clause-refused_insert
returns-clause-refused_insert c = refused_insert_tells

pub returns-clause-seen : goal.returns-clause-seen
returns-clause-seen c = seen_tells
