use Rattle.std.proofs.Common.{◌≡◌, ◌++◌, length}
use Rattle.rls_script.specs.Rendering.{row_lines}
use Rattle.rls_script.proofs.rendering.push_rows.Given as goal

-- what is written, and what is left, make the whole
abbrev pub invariant-loop-rows : goal.invariant-loop-rows
invariant-loop-rows l = l.out.items ++ row_lines l.label l.rows ≡ l.initial.out.items ++ row_lines l.label l.fn.rows

abbrev pub decreases-loop-rows : goal.decreases-loop-rows
decreases-loop-rows l = length l.rows
