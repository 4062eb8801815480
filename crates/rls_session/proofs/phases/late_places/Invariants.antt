use Rattle.std.proofs.Common.{◌≡◌, take}
use Rattle.std.specs.List.{filter}
use Rattle.rls_session.specs.Phases.{is_late, places_of}
use Rattle.rls_session.proofs.phases.late_places.Given as goal

abbrev pub invariant-loop-task : goal.invariant-loop-task
invariant-loop-task l = l.late.items ≡ filter is_late (places_of (take l.task-index l.tasks))
