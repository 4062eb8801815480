use Rattle.std.proofs.Common.{◌≡◌, take, map}
use Rattle.rls_script.specs.Streams.{GrewBy}
use Rattle.rls_session.specs.Phases.{RunsPhases}
use Rattle.rls_session.specs.Parts.{is_keeping}
use Rattle.rls_session.specs.Works.{work_seats}
use Rattle.rls_session.proofs.phases.run_phases.Given as goal

-- the phases so far lead from the opening to what there is; no write has failed since
abbrev pub invariant-loop-tasks : goal.invariant-loop-tasks
invariant-loop-tasks g l =
    let out = g.O.ScriptOut in
    (out.failures l.output ≡ out.failures l.initial.output)
    × GrewBy (out.taken l.initial.output) (out.taken l.output) (λ written. RunsPhases l.initial.notes.terse (is_keeping l.initial.notes) l.names (map (λ phase. phase.items) (take l.tasks-index l.phases)) written (record { seats = work_seats l.workers; notes = l.notes }))
