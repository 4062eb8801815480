use Rattle.std.proofs.Common.{◌≡◌, ◌++◌, length}
use Rattle.rls_script.specs.Rendering.{escaped}
use Rattle.rls_script.proofs.rendering.push_escaped.Given as goal

-- what is written, and what is left, make the whole
abbrev pub invariant-loop-rest : goal.invariant-loop-rest
invariant-loop-rest l = l.out.items ++ escaped l.rest ≡ l.fn.out.items ++ escaped l.bytes

abbrev pub decreases-loop-rest : goal.decreases-loop-rest
decreases-loop-rest l = length l.rest
