use Rattle.rls_conflict.proofs.UpdaterLemmas.{found_beside}
use Rattle.rls_conflict.proofs.updaters.least_beside.Goals as goal

pub returns : goal.returns
returns c =
    found_beside c.args.since.now c.args.running.now.entries c.args.sireads.now c.args.writers.now c.args.txn c.args.snap c.args.object.now c.requires
    c.least_running.result c.least_since.result c.least_of_both.result c.least_running.ensures c.least_since.ensures c.least_of_both.ensures
