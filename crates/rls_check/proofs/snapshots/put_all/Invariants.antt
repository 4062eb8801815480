use Rattle.std.proofs.Common.{◌≡◌, Option, length}
use Rattle.rls_check.specs.declared.finding.Finding.{Finding}
use Rattle.rls_check.specs.ShownAudits.{FirstDiffers}
use Rattle.rls_check.specs.Snapshots.{put_all}
use Rattle.rls_check.specs.Walking.{left}
use Rattle.rls_check.proofs.GraphWorkLemmas.{first_or}
use Rattle.rls_check.proofs.snapshots.put_all.Given as goal

-- what is put, with what the statements that are left change, is the whole; what was found, or else what is found of these, is found first
abbrev pub invariant-loop-turn : goal.invariant-loop-turn
invariant-loop-turn l = record {
  deltas : put_all l.deltas.items (left l.walk) ≡ put_all l.fn.deltas.items (left l.fn.walk);
  differs : (rest : Option Finding) → FirstDiffers (left l.walk) rest → FirstDiffers (left l.fn.walk) (first_or l.found rest);
}

abbrev pub decreases-loop-turn : goal.decreases-loop-turn
decreases-loop-turn l = length (left l.walk)
