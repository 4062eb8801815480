use Rattle.std.proofs.Common.{◌≡◌, length}
use Rattle.rls_text.specs.Values as values
use Rattle.rls_text.proofs.selecting.have_length.Given as goal

-- what is left passes as the whole does
abbrev pub invariant-loop-tuples : goal.invariant-loop-tuples
invariant-loop-tuples l = values.have_length l.length l.tuples ≡ values.have_length l.length l.initial.tuples

abbrev pub decreases-loop-tuples : goal.decreases-loop-tuples
decreases-loop-tuples l = length l.tuples
