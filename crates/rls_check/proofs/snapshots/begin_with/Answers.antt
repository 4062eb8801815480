use Rattle.rls_check.proofs.SnapshotLemmas.{begun_along}
use Rattle.rls_check.proofs.snapshots.begin_with.Goals as goal

-- they begin in the states after commits with what was put
pub returns : goal.returns
returns c =
    begun_along c.args.transactions.now c.args.places.items c.args.attempts c.args.deltas.now.items c.run_all.new.deltas.items c.as_slice.result.now (record { begun = c.in_ok-begun.begun; differs = c.in_ok-differs.differs })
    c.requires.empty c.in_ok-differs.ensures.deltas c.as_slice.ensures.value c.in_ok-begun.ensures c.in_ok-differs.ensures.differs
