use Rattle.std.proofs.Common.{◌≡◌, ◌++◌, length}
use Rattle.std.specs.List.{flat_map}
use Rattle.rls_transcript.specs.Reports.{step_text}
use Rattle.rls_transcript.proofs.report.write_steps.Given as goal

-- what is written, and what is left, make the whole
abbrev pub invariant-loop-rest : goal.invariant-loop-rest
invariant-loop-rest g l = g.O.ScriptOut.taken l.output ++ flat_map step_text l.rest ≡ g.O.ScriptOut.taken l.initial.output ++ flat_map step_text l.steps

abbrev pub decreases-loop-rest : goal.decreases-loop-rest
decreases-loop-rest g l = length l.rest
