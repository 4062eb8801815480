use Rattle.std.proofs.Common.{map}
use Rattle.rls_core.specs.Seen.{nothing_yet}
use Rattle.rls_core.specs.Happening.{StopsRun, event_of}
use Rattle.rls_core.proofs.RunLemmas.{run_leads, run_more, run_stops, stopped_by}
use Rattle.rls_core.proofs.happening.run.Goals as goal

pub loop-event-preserved : goal.loop-event-preserved
loop-event-preserved c =
    run_more c.args.events.now c.loop-event.event-index c.event-item.result c.loop-event-test.true c.event-item.is c.loop-event.answers.items c.go_on.new.answers.items nothing_yet c.loop-event.core c.go_on.new.core
    c.loop-event.invariant c.in_ok-go_on.ensures.ok

pub returns-in_err-go_on-clause-err : goal.returns-in_err-go_on-clause-err
returns-in_err-go_on-clause-err c =
    stopped_by c.from_residual-in_err-go_on.result c.in_err-go_on.field-0.0 (StopsRun (map event_of c.args.events.now)) c.from_residual-in_err-go_on.ensures.1
    (run_stops c.args.events.now c.loop-event.event-index c.event-item.result c.loop-event-test.true c.event-item.is c.loop-event.answers.items c.loop-event.core c.in_err-go_on.field-0.0 c.loop-event.invariant c.in_err-go_on.ensures.why)

pub returns-clause-ok : goal.returns-clause-ok
returns-clause-ok c = run_leads c.args.events.now c.loop-event.event-index c.loop-event.answers.items c.loop-event.core c.loop-event-test.false c.loop-event.invariant
