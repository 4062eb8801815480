use Rattle.std.proofs.Common.{◌≡◌, ◌++◌, length}
use Rattle.rls_check.specs.GraphSteps.{befores_by}
use Rattle.rls_check.proofs.edges.befores_by.Given as goal

-- what is made, with what is made of those that are left, is the whole
abbrev pub invariant-loop-places : goal.invariant-loop-places
invariant-loop-places l = l.edges.items ++ befores_by l.sets l.places ≡ befores_by l.sets l.fn.places

abbrev pub decreases-loop-places : goal.decreases-loop-places
decreases-loop-places l = length l.places
