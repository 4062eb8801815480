use Rattle.std.proofs.Common.{◌≡◌, ◌++◌, length}
use Rattle.rls_check.specs.GraphSteps.{sets_from}
use Rattle.rls_check.proofs.neighbours.sets_from.Given as goal

-- what is made, with what is made of those that are left, is the whole
abbrev pub invariant-loop-snaps : goal.invariant-loop-snaps
invariant-loop-snaps l = l.sets.items ++ sets_from l.greatest l.snaps ≡ sets_from l.greatest l.fn.snaps

abbrev pub decreases-loop-snaps : goal.decreases-loop-snaps
decreases-loop-snaps l = length l.snaps
