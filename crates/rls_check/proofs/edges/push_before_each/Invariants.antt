use Rattle.std.proofs.Common.{◌≡◌, ◌++◌, length, map}
use Rattle.rls_check.specs.GraphEdges.{before_edge}
use Rattle.rls_check.proofs.edges.push_before_each.Given as goal

-- what is made, with what is made of those that are left, is the whole
abbrev pub invariant-loop-others : goal.invariant-loop-others
invariant-loop-others l = l.edges.items ++ map (before_edge l.one) l.others ≡ l.fn.edges.items ++ map (before_edge l.one) l.fn.others

abbrev pub decreases-loop-others : goal.decreases-loop-others
decreases-loop-others l = length l.others
