use Rattle.std.proofs.Common.{◌≡◌, ◌++◌, length}
use Rattle.rls_check.specs.GraphSteps.{near_sets}
use Rattle.rls_check.proofs.neighbours.near_sets.Given as goal

-- what is made, with what is made of those that are left, is the whole
abbrev pub invariant-loop-snaps : goal.invariant-loop-snaps
invariant-loop-snaps l = l.sets.items ++ near_sets l.later (length l.sets.items) l.snaps ≡ near_sets l.later 0 l.fn.snaps

abbrev pub decreases-loop-snaps : goal.decreases-loop-snaps
decreases-loop-snaps l = length l.snaps
