use Rattle.std.proofs.Common.{◌≡◌, ◌++◌, length}
use Rattle.rls_script.specs.Rendering.{more_fields}
use Rattle.rls_script.proofs.writing.write_more_fields.Given as goal

-- no write has failed; what was taken, what is held and what is left make the whole
abbrev pub invariant-loop-values : goal.invariant-loop-values
invariant-loop-values g l = (g.O.ScriptOut.failures l.output ≡ g.O.ScriptOut.failures l.initial.output) × (g.O.ScriptOut.taken l.output ++ (l.held.items ++ more_fields l.values) ≡ g.O.ScriptOut.taken l.initial.output ++ (l.initial.held.items ++ more_fields l.fn.values))

abbrev pub decreases-loop-values : goal.decreases-loop-values
decreases-loop-values g l = length l.values
