use Rattle.std.proofs.Common.{◌≡◌, ◌++◌, length}
use Rattle.rls_check.specs.GraphSteps.{conflicts_by}
use Rattle.rls_check.proofs.edges.conflicts_by.Given as goal

-- what is made, with what is made of those that are left, is the whole
abbrev pub invariant-loop-places : goal.invariant-loop-places
invariant-loop-places l = l.edges ++ conflicts_by l.works l.sets l.places ≡ conflicts_by l.works l.sets l.fn.places

abbrev pub decreases-loop-places : goal.decreases-loop-places
decreases-loop-places l = length l.places
