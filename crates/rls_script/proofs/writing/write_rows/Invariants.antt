use Rattle.std.proofs.Common.{◌≡◌, ◌++◌, take}
use Rattle.rls_script.specs.Rendering.{row_lines}
use Rattle.rls_script.proofs.writing.write_rows.Given as goal

-- no write has failed; what was taken and what is held are the rows so far
abbrev pub invariant-loop-row : goal.invariant-loop-row
invariant-loop-row g l = (g.O.ScriptOut.failures l.output ≡ g.O.ScriptOut.failures l.initial.output) × (g.O.ScriptOut.taken l.output ++ l.held.items ≡ g.O.ScriptOut.taken l.initial.output ++ (l.initial.held.items ++ row_lines l.label (take l.row-index l.rows)))
