use Rattle.rlsdb.proofs.DumpLemmas.{leaves_decide}
use Rattle.rlsdb.proofs.dumping.leave_contents.Goals as goal

-- the state behind the transactions is the one that was compared
pub returns : goal.returns
returns c = leaves_decide c.args.records.now c.args.state.now _ _ c.in_ok-other.ensures.state c.in_ok-same.ensures
