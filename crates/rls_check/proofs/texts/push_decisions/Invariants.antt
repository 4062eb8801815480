use Rattle.std.proofs.Common.{◌≡◌, ◌++◌, length, string_bytes}
use Rattle.rls_check.specs.WhyTexts.{decision_lines}
use Rattle.rls_check.proofs.texts.push_decisions.Given as goal

-- what is written, and what is left, make the whole
abbrev pub invariant-loop-decisions : goal.invariant-loop-decisions
invariant-loop-decisions l = string_bytes l.lines ++ decision_lines l.decisions ≡ string_bytes l.initial.lines ++ decision_lines l.fn.decisions

abbrev pub decreases-loop-decisions : goal.decreases-loop-decisions
decreases-loop-decisions l = length l.decisions
