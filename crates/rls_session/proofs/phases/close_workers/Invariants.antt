use Rattle.std.proofs.Common.{vec_len}
use Rattle.rls_session.proofs.phases.close_workers.Given as goal

abbrev pub decreases-loop-worker : goal.decreases-loop-worker
decreases-loop-worker g l = vec_len l.workers
