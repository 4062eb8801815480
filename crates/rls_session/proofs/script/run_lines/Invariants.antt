use Rattle.std.proofs.Common.{◌≡◌, length}
use Rattle.rls_session.specs.Parts.{is_keeping}
use Rattle.rls_session.proofs.ScriptLemmas.{MakesWhole}
use Rattle.rls_session.proofs.script.run_lines.Given as goal

-- no write has failed since; what the lines that are left will write, and leave, makes the whole
abbrev pub invariant-loop-rest : goal.invariant-loop-rest
invariant-loop-rest g l =
    let taken = g.O.ScriptOut.taken in
    (g.O.ScriptOut.failures l.output ≡ g.O.ScriptOut.failures l.initial.output) × MakesWhole l.initial.notes.terse (is_keeping l.initial.notes) (taken l.initial.output) (taken l.output) l.script l.rest (record { labels = l.labels; notes = l.notes })

abbrev pub decreases-loop-rest : goal.decreases-loop-rest
decreases-loop-rest g l = length l.rest
