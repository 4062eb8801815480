use Rattle.std.proofs.Common.{◌≡◌, Option, length}
use Rattle.rls_check.specs.declared.finding.Finding.{Finding}
use Rattle.rls_check.specs.Walking.{left, state_left}
use Rattle.rls_lint.specs.Naming.{IsNamed}
use Rattle.rlsdb.specs.Linting.{FirstDiffers, first_or, state_before}
use Rattle.rlsdb.proofs.LintLemmas.{Follow}
use Rattle.rlsdb.proofs.linting.walk_to.Given as goal

-- what is left leads to the same state from the one that was reached, whose roles and tables these are; what was found, or else what
-- is found of the statements that are left, is found first
abbrev pub invariant-loop-turn : goal.invariant-loop-turn
invariant-loop-turn l = record {
  follow : Follow (state_left l.walk) (left l.walk);
  state : state_before l.later (state_left l.walk) (left l.walk) ≡ state_before l.later (state_left l.fn.walk) (left l.fn.walk);
  named : IsNamed (state_left l.walk) l.named;
  differs : (rest : Option Finding) → FirstDiffers l.later (left l.walk) rest → FirstDiffers l.later (left l.fn.walk) (first_or l.differs rest);
}

abbrev pub decreases-loop-turn : goal.decreases-loop-turn
decreases-loop-turn l = length (left l.walk)
