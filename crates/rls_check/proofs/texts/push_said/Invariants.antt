use Rattle.std.proofs.Common.{◌≡◌, ◌++◌, length, string_bytes}
use Rattle.rls_check.specs.WhyTexts.{said_lines}
use Rattle.rls_check.proofs.texts.push_said.Given as goal

-- what is written, and what is left, make the whole
abbrev pub invariant-loop-said : goal.invariant-loop-said
invariant-loop-said l = string_bytes l.lines ++ said_lines l.said ≡ string_bytes l.initial.lines ++ said_lines l.fn.said

abbrev pub decreases-loop-said : goal.decreases-loop-said
decreases-loop-said l = length l.said
