use Rattle.std.proofs.Common.{◌≡◌, ◌++◌, length}
use Rattle.rls_script.specs.Rendering.{more_fields}
use Rattle.rls_script.proofs.rendering.push_more_fields.Given as goal

-- what is written, and what is left, make the whole
abbrev pub invariant-loop-values : goal.invariant-loop-values
invariant-loop-values l = l.out.items ++ more_fields l.values ≡ l.initial.out.items ++ more_fields l.fn.values

abbrev pub decreases-loop-values : goal.decreases-loop-values
decreases-loop-values l = length l.values
