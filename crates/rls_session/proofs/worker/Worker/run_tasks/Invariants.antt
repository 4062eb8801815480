use Rattle.std.proofs.Common.{take}
use Rattle.rls_session.specs.Phases.{Follows}
use Rattle.rls_session.proofs.worker.Worker.run_tasks.Given as goal

-- the lines so far lead to what there is
abbrev pub invariant-loop-task : goal.invariant-loop-task
invariant-loop-task g l = Follows l.initial.self.track (take l.task-index l.tasks) l.self.track
