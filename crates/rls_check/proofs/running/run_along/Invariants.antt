use Rattle.std.proofs.Common.{drop}
use Rattle.rls_check.proofs.RunningLemmas.{IsRunning}
use Rattle.rls_check.proofs.running.run_along.Given as goal

-- those before have run
abbrev pub invariant-loop-place : goal.invariant-loop-place
invariant-loop-place g l = IsRunning l.transactions l.places (drop l.place-index l.places) l.state l.committing
