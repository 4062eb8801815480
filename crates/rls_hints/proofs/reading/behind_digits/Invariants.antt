use Rattle.std.proofs.Common.{◌≡◌, length}
use Rattle.rls_hints.specs.Reading as spec
use Rattle.rls_hints.proofs.reading.behind_digits.Given as goal

-- what is left leads to what the whole leads to
abbrev pub invariant-loop-rest : goal.invariant-loop-rest
invariant-loop-rest l = spec.behind_digits l.rest ≡ spec.behind_digits l.fn.chars

abbrev pub decreases-loop-rest : goal.decreases-loop-rest
decreases-loop-rest l = length l.rest
