use Rattle.std.proofs.Common.{◌≡◌}
use Rattle.rls_text.proofs.words.chars_of.Given as goal

-- the characters passed are in the list
abbrev pub invariant-loop-letter : goal.invariant-loop-letter
invariant-loop-letter l = l.letters.items ≡ l.yielded
