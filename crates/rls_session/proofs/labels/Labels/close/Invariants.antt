use Rattle.std.proofs.Common.{vec_len}
use Rattle.rls_session.proofs.labels.Labels.close.Given as goal

abbrev pub decreases-loop-entry : goal.decreases-loop-entry
decreases-loop-entry g l = vec_len l.labels
