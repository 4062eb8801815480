use Rattle.rls_engine.proofs.HoldLemmas.{stops_commit}
use Rattle.rls_engine.proofs.engine.Engine.commit.Goals as goal

pub returns-in-Err-clause-why : goal.returns-in-Err-clause-why
returns-in-Err-clause-why g c = stops_commit c.args.held.now _ _ c.in-Err.over.why c.in-Err.ensures.err
