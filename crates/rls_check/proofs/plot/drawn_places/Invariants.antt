use Rattle.std.proofs.Common.{◌≡◌, ◌++◌, filter, length}
use Rattle.rls_check.specs.GraphSteps.{is_at}
use Rattle.rls_check.proofs.plot.drawn_places.Given as goal

-- what is made, with what is made of those that are left, is the whole
abbrev pub invariant-loop-places : goal.invariant-loop-places
invariant-loop-places l = l.kept.items ++ filter (is_at l.drawn) l.places ≡ filter (is_at l.drawn) l.fn.places

abbrev pub decreases-loop-places : goal.decreases-loop-places
decreases-loop-places l = length l.places
