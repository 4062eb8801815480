use Rattle.std.proofs.Common.{◌≡◌, length, map}
use Rattle.rls_value.specs.Names.{one_of}
use Rattle.rls_value.proofs.name.is_one_of.Given as goal

-- what is left has the word as the whole has it
abbrev pub invariant-loop-words : goal.invariant-loop-words
invariant-loop-words l = one_of (map (λ w. w.now) l.fn.words) l.word ≡ one_of (map (λ w. w.now) l.words) l.word

abbrev pub decreases-loop-words : goal.decreases-loop-words
decreases-loop-words l = length l.words
