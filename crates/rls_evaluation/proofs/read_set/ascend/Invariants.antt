use Rattle.std.proofs.Common.{length}
use Rattle.rls_source.specs.Footprints.{IsInOrder}
use Rattle.rls_evaluation.proofs.read_set.ascend.Given as goal

-- all stand in order if what is left does
abbrev pub invariant-loop-objects : goal.invariant-loop-objects
invariant-loop-objects l = IsInOrder l.objects → IsInOrder l.fn.objects

abbrev pub decreases-loop-objects : goal.decreases-loop-objects
decreases-loop-objects l = length l.objects
