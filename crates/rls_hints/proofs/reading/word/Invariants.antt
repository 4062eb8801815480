use Rattle.std.proofs.Common.{◌≡◌, ◌∷◌, ◌++◌, length, string_bytes}
use Rattle.std.specs.Char.{to_ascii_lowercase}
use Rattle.rls_text.specs.Words as spec
use Rattle.rls_hints.proofs.reading.word.Given as goal

-- what was read and what is left are the whole
abbrev pub invariant-loop-rest : goal.invariant-loop-rest
invariant-loop-rest l = record {
  letters : string_bytes l.word ++ spec.letters l.rest ≡ to_ascii_lowercase l.fn.first ∷ spec.letters l.fn.behind;
  behind : spec.behind_letters l.rest ≡ spec.behind_letters l.fn.behind;
}

abbrev pub decreases-loop-rest : goal.decreases-loop-rest
decreases-loop-rest l = length l.rest
