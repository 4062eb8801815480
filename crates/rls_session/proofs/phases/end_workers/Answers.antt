use Rattle.std.proofs.Common.{◌<◌, ◌≤◌, length, arith}
use Rattle.std.proofs.lemmas.Bool.Decides.{nat_tests}
use Rattle.rls_session.specs.Works.{Work}
use Rattle.rls_session.proofs.TriedLemmas.{kept_behind, ended_more, workers_ended}
use Rattle.rls_session.proofs.phases.end_workers.Goals as goal

pub loop-i-preserved : goal.loop-i-preserved
loop-i-preserved g c =
    let within : c.loop-i.i < length c.args.workers.now = grind (arith, nat_tests) in (
      kept_behind c.args.workers.now c.loop-i.workers c.loop-i.i c.end.new.self c.loop-i.invariant.0,
      ended_more (λ (work : Work). work.track.seat.session) c.args.workers.now c.loop-i.workers c.loop-i.i c.index-workers-i.result c.args.notes.now c.loop-i.notes c.end.new.notes within c.loop-i.invariant.0 c.loop-i.invariant.1 c.in_ok-end.ensures.ok,
    )

pub returns-clause-ok : goal.returns-clause-ok
returns-clause-ok g c =
    let done : length c.args.workers.now ≤ c.loop-i.i = grind (arith, nat_tests) in
    workers_ended c.args.workers.now c.loop-i.i c.args.notes.now c.loop-i.notes done c.loop-i.invariant.1
