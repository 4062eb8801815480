use Rattle.std.proofs.Common.{◌≡◌, ◌++◌, ◌-◌, length}
use Rattle.rls_text.specs.Words as spec
use Rattle.rls_text.proofs.words.words_in.Given as goal

-- the words that were read, and those that are left, are all
abbrev pub invariant-loop-turn : goal.invariant-loop-turn
invariant-loop-turn l = spec.words_in (length l.chars) l.chars ≡ l.tokens.items ++ spec.words_in (l._turn-end - l._turn) l.rest
