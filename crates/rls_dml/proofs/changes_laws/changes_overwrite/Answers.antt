use Rattle.rls_dml.proofs.FittingLemmas.{delete_overwrites}
use Rattle.rls_dml.proofs.changes_laws.changes_overwrite.Goals as goal

pub returns-clause-delete : goal.returns-clause-delete
returns-clause-delete c name analysed_delete role judged = delete_overwrites name analysed_delete role judged
