use Rattle.std.proofs.Common.{◌≡◌, ◌++◌, length}
use Rattle.std.specs.Prelude.{string_bytes}
use Rattle.rls_check.specs.GraphLabels.{letters_text}
use Rattle.rls_check.proofs.labels.push_chars.Given as goal

-- what is written, with what is written of those that are left, is the whole
abbrev pub invariant-loop-letters : goal.invariant-loop-letters
invariant-loop-letters l = string_bytes l.label ++ letters_text l.picture l.letters ≡ string_bytes l.fn.label ++ letters_text l.picture l.fn.letters

abbrev pub decreases-loop-letters : goal.decreases-loop-letters
decreases-loop-letters l = length l.letters
