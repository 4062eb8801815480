use Rattle.std.proofs.Common.{take, map}
use Rattle.rls_core.specs.Seen.{nothing_yet}
use Rattle.rls_core.specs.Happening.{Runs, event_of}
use Rattle.rls_core.proofs.happening.run.Given as goal

-- the events so far lead here, each answered so
abbrev pub invariant-loop-event : goal.invariant-loop-event
invariant-loop-event l = Runs nothing_yet (map event_of (take l.event-index l.events)) l.answers.items l.core
