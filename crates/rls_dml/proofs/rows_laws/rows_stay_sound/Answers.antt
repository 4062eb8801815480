use Rattle.rls_dml.proofs.KeepingLemmas.{select_leaves}
use Rattle.rls_dml.proofs.rows_laws.rows_stay_sound.Goals as goal

-- a SELECT changes nothing
pub returns-clause-select : goal.returns-clause-select
returns-clause-select c = select_leaves
