use Rattle.std.proofs.Common.{length}
use Rattle.rls_session.specs.rls_script.specs.Streams.{GrewBy}
use Rattle.rlsdb.specs.Answers.{IsParsed}
use Rattle.rlsdb.proofs.hinting.parse_lines.Given as goal

-- where all lines so far are taken nothing was written
abbrev pub invariant-loop-rest : goal.invariant-loop-rest
invariant-loop-rest g l = GrewBy (g.O.ScriptOut.taken l.initial.output) (g.O.ScriptOut.taken l.output) (λ written. IsParsed written l.fine)

abbrev pub decreases-loop-rest : goal.decreases-loop-rest
decreases-loop-rest g l = length l.rest
