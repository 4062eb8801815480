use Rattle.std.proofs.Common.{◌≡◌, drop, take, map}
use Rattle.rls_session.specs.Labels.{ended_all}
use Rattle.rls_session.specs.Works.{Work}
use Rattle.rls_session.proofs.phases.end_workers.Given as goal

-- those so far have ended; the others are as they were
abbrev pub invariant-loop-i : goal.invariant-loop-i
invariant-loop-i g l =
    let before = l.initial.workers in
    (drop l.i l.workers ≡ drop l.i before)
    × (l.notes ≡ ended_all (map (λ (work : Work). work.track.seat.session) (take l.i before)) l.initial.notes)
