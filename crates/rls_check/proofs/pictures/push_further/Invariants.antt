use Rattle.std.proofs.Common.{◌≡◌, ◌++◌, length}
use Rattle.std.specs.Prelude.{string_bytes}
use Rattle.rls_check.specs.Audited.{asked_of}
use Rattle.rls_check.specs.GraphTexts.{further_text}
use Rattle.rls_check.proofs.pictures.push_further.Given as goal

-- what is made, with what is made of those that are left, is the whole
abbrev pub invariant-loop-answers : goal.invariant-loop-answers
invariant-loop-answers l = string_bytes l.text ++ further_text (asked_of l.answers) ≡ string_bytes l.fn.text ++ further_text (asked_of l.fn.answers)

abbrev pub decreases-loop-answers : goal.decreases-loop-answers
decreases-loop-answers l = length l.answers
