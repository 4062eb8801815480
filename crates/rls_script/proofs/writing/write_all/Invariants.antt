use Rattle.std.proofs.Common.{◌≡◌, ◌++◌, length}
use Rattle.rls_script.proofs.writing.write_all.Given as goal

-- no write has failed since; what was taken, and what is left, make the whole
abbrev pub invariant-loop-rest : goal.invariant-loop-rest
invariant-loop-rest g l = (g.O.ScriptOut.failures l.output ≡ g.O.ScriptOut.failures l.initial.output) × (g.O.ScriptOut.taken l.output ++ l.rest ≡ g.O.ScriptOut.taken l.initial.output ++ l.bytes)

abbrev pub decreases-loop-rest : goal.decreases-loop-rest
decreases-loop-rest g l = length l.rest
