use Rattle.std.proofs.Common.{◌≡◌, length}
use Rattle.rls_text.specs.Words as spec
use Rattle.rls_text.proofs.words.number.Given as goal

-- what is left leads to what the whole leads to
abbrev pub invariant-loop-rest : goal.invariant-loop-rest
invariant-loop-rest l = spec.number_from l.number l.rest ≡ spec.number_from l.first l.fn.behind

abbrev pub decreases-loop-rest : goal.decreases-loop-rest
decreases-loop-rest l = length l.rest
