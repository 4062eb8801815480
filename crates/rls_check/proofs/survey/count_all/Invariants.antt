use Rattle.std.proofs.Common.{◌≡◌, Option, length}
use Rattle.rls_check.specs.declared.finding.Finding.{Finding}
use Rattle.rls_check.specs.GraphSteps.{noted_all}
use Rattle.rls_check.specs.ShownAudits.{FirstDiffers}
use Rattle.rls_check.specs.Tallies.{tallied_all}
use Rattle.rls_check.specs.Walking.{left}
use Rattle.rls_check.proofs.GraphWorkLemmas.{first_or}
use Rattle.rls_check.proofs.survey.count_all.Given as goal

-- what is noted and counted, with what the statements that are left come to, is the whole; what was found, or else what is found of these,
-- is found first
abbrev pub invariant-loop-turn : goal.invariant-loop-turn
invariant-loop-turn g l = record {
  works : noted_all l.works.items (left l.walk) ≡ noted_all l.fn.works.items (left l.fn.walk);
  tallies : tallied_all l.wanted l.tallies.items (left l.walk) ≡ tallied_all l.wanted l.fn.tallies.items (left l.fn.walk);
  differs : (rest : Option Finding) → FirstDiffers (left l.walk) rest → FirstDiffers (left l.fn.walk) (first_or l.found rest);
}

abbrev pub decreases-loop-turn : goal.decreases-loop-turn
decreases-loop-turn g l = length (left l.walk)
