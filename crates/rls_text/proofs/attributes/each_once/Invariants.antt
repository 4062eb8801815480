use Rattle.std.proofs.Common.{◌≡◌, length}
use Rattle.rls_text.specs.Values as values
use Rattle.rls_text.proofs.attributes.each_once.Given as goal

-- what is left passes as the whole does
abbrev pub invariant-loop-attributes : goal.invariant-loop-attributes
invariant-loop-attributes l = values.each_once l.attributes ≡ values.each_once l.initial.attributes

abbrev pub decreases-loop-attributes : goal.decreases-loop-attributes
decreases-loop-attributes l = length l.attributes
