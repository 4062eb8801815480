use Rattle.rls_history.proofs.TakenLemmas.{taken_exactly}
use Rattle.rls_history.proofs.WorldLemmas.{one_more}
use Rattle.rls_history.proofs.AloneLemmas.{nth_is}
use Rattle.rls_history.proofs.EntryLemmas.{state_old, state_new}
use Rattle.rls_history.proofs.StateLemmas.{put_all_append}
use Rattle.rls_history.specs.Worlds.{sees}
use Rattle.rls_history.specs.Explained.{state_at}
use Rattle.rls_history.proofs.runs.events_mean.Goals as goal

pub returns-clause-taken : goal.returns-clause-taken
returns-clause-taken g c w txn snap changes = taken_exactly w txn snap changes

pub returns-clause-one_more : goal.returns-clause-one_more
returns-clause-one_more g c setup first events event = one_more setup first events event

pub returns-clause-stand : goal.returns-clause-stand
returns-clause-stand g c opening committed entry n within = state_old g.D.Database.statements opening committed entry n within

pub returns-clause-grow : goal.returns-clause-grow
returns-clause-grow g c opening committed entry = state_new g.D.Database.statements opening committed entry

pub returns-clause-views : goal.returns-clause-views
returns-clause-views g c setup committed it asked =
    let m = g.D.Database.statements in
    put_all_append g.D.Database.states it.entry.changes (m.step it.now asked (sees setup committed it.entry)).changes (state_at m setup.opening committed it.entry.snap)

pub returns-clause-known : goal.returns-clause-known
returns-clause-known g c committed i = nth_is g.D.Database.statements committed i
