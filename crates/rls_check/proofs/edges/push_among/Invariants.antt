use Rattle.std.proofs.Common.{◌≡◌, ◌++◌, map}
use Rattle.rls_check.specs.GraphEdges.{conflict_on}
use Rattle.rls_check.specs.GraphSteps.{common}
use Rattle.rls_check.proofs.edges.push_among.Given as goal

-- what is made, with what is made of those that are left, is the whole
abbrev pub invariant-loop-object : goal.invariant-loop-object
invariant-loop-object l = l.edges ++ map (conflict_on l.pair.0 l.pair.1) (common l.object-iterator l.others) ≡ l.fn.edges ++ map (conflict_on l.pair.0 l.pair.1) (common l.objects l.others)
