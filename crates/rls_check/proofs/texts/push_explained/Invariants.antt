use Rattle.std.proofs.Common.{◌≡◌, ◌++◌, length, string_bytes}
use Rattle.rls_check.specs.WhyTexts.{explained_lines}
use Rattle.rls_check.proofs.texts.push_explained.Given as goal

-- what is written, and what is left, make the whole
abbrev pub invariant-loop-explained : goal.invariant-loop-explained
invariant-loop-explained l = string_bytes l.lines ++ explained_lines l.explained ≡ string_bytes l.initial.lines ++ explained_lines l.fn.explained

abbrev pub decreases-loop-explained : goal.decreases-loop-explained
decreases-loop-explained l = length l.explained
