use Rattle.std.proofs.Common.{◌≡◌, ◌++◌, length}
use Rattle.rls_check.specs.GraphSteps.{greatest_from}
use Rattle.rls_check.proofs.neighbours.greatest_snaps.Given as goal

-- what is made, with what is made of those that are left, is the whole
abbrev pub invariant-loop-snaps : goal.invariant-loop-snaps
invariant-loop-snaps l = l.greatest.items ++ greatest_from l.most l.snaps ≡ greatest_from 0 l.fn.snaps

abbrev pub decreases-loop-snaps : goal.decreases-loop-snaps
decreases-loop-snaps l = length l.snaps
