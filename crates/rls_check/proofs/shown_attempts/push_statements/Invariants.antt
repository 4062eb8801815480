use Rattle.std.proofs.Common.{◌≡◌, ◌++◌, Option, Some, length}
use Rattle.rls_check.specs.declared.finding.Finding.{Finding}
use Rattle.rls_check.specs.ShownAudits.{FirstDiffers}
use Rattle.rls_check.specs.ShownTexts.{text_of_all}
use Rattle.rls_check.specs.Walking.{left_alone}
use Rattle.rls_check.proofs.GraphWorkLemmas.{first_or}
use Rattle.rls_check.proofs.shown_attempts.push_statements.Given as goal

-- what is written, and what is written of the statements that are left, make the whole; what was found, or else what is found of
-- these, is found first
abbrev pub invariant-loop-alloc : goal.invariant-loop-alloc
invariant-loop-alloc l = record {
  text : l.text.items ++ text_of_all (Some l.end) l.wanted (left_alone l.running) ≡ l.fn.text.items ++ text_of_all (Some l.fn.end) l.fn.wanted (left_alone l.fn.running);
  found : (rest : Option Finding) → FirstDiffers (left_alone l.running) rest → FirstDiffers (left_alone l.fn.running) (first_or l.found rest);
}

abbrev pub decreases-loop-alloc : goal.decreases-loop-alloc
decreases-loop-alloc l = length (left_alone l.running)
