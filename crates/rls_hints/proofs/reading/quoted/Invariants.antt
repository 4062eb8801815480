use Rattle.std.proofs.Common.{◌≡◌, ◌-◌, length}
use Rattle.rls_hints.specs.Reading as spec
use Rattle.rls_hints.proofs.reading.quoted.Given as goal

-- what is left ends where the whole ends
abbrev pub invariant-loop-turn : goal.invariant-loop-turn
invariant-loop-turn l = spec.behind_quoted (length l.chars) l.chars ≡ spec.behind_quoted (l._turn-end - l._turn) l.rest
