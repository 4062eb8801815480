use Rattle.std.proofs.Common.{◌≡◌, ◌++◌, ◌-◌, length}
use Rattle.rls_hints.specs.Reading as spec
use Rattle.rls_hints.proofs.reading.words_in.Given as goal

-- the words that were read, and those that are left, are all
abbrev pub invariant-loop-turn : goal.invariant-loop-turn
invariant-loop-turn l = spec.placed_in (length l.chars) l.chars ≡ l.all.items ++ spec.placed_in (l._turn-end - l._turn) l.rest
