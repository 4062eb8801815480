use Rattle.std.proofs.Common.{◌≡◌, ◌++◌, take, drop, map}
use Rattle.rls_session.specs.Works.{entered}
use Rattle.rls_session.proofs.phases.enter_all.Given as goal

abbrev pub invariant-loop-i : goal.invariant-loop-i
invariant-loop-i g l = l.workers ≡ map (entered l.notes) (take l.i l.initial.workers) ++ drop l.i l.initial.workers
