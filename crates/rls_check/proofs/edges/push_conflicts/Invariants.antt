use Rattle.std.proofs.Common.{◌≡◌, ◌++◌, length, flat_map}
use Rattle.rls_check.specs.GraphSteps.{conflicts_between}
use Rattle.rls_check.proofs.edges.push_conflicts.Given as goal

-- what is made, with what is made of those that are left, is the whole
abbrev pub invariant-loop-others : goal.invariant-loop-others
invariant-loop-others l = l.edges ++ flat_map (conflicts_between l.works l.one) l.others ≡ l.fn.edges ++ flat_map (conflicts_between l.works l.one) l.fn.others

abbrev pub decreases-loop-others : goal.decreases-loop-others
decreases-loop-others l = length l.others
