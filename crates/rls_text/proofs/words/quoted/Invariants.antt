use Rattle.std.proofs.Common.{◌≡◌, ◌-◌, length, string_bytes}
use Rattle.rls_text.specs.Words as spec
use Rattle.rls_text.proofs.words.quoted.Given as goal

-- what was read stands before what is left
abbrev pub invariant-loop-turn : goal.invariant-loop-turn
invariant-loop-turn l = spec.quoted_in (length l.chars) l.chars ≡ spec.with_content (string_bytes l.content) (spec.quoted_in (l._turn-end - l._turn) l.rest)
