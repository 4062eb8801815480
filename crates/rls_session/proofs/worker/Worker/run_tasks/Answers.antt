use Rattle.std.proofs.Common.{length, ◌<◌, arith}
use Rattle.std.proofs.lemmas.Bool.Decides.{nat_tests}
use Rattle.rls_session.specs.Phases.{none}
use Rattle.rls_session.proofs.TrackLemmas.{follows_at}
use Rattle.rls_session.proofs.worker.Worker.run_tasks.Goals as goal

pub loop-task-init : goal.loop-task-init
loop-task-init g c = none

pub loop-task-preserved : goal.loop-task-preserved
loop-task-preserved g c =
    let within : c.loop-task.task-index < length c.args.tasks.now = grind (arith, nat_tests) in
    follows_at _ c.args.tasks.now c.loop-task.task-index c.task-item.result _ _ within c.task-item.is c.loop-task.invariant c.in_ok-run_task.ensures
