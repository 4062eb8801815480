use Rattle.std.proofs.Common.{◌≡◌, length}
use Rattle.rls_check.specs.GraphSteps.{with_each}
use Rattle.rls_check.proofs.neighbours.put_at_each.Given as goal

-- those that are left lead to what all do
abbrev pub invariant-loop-places : goal.invariant-loop-places
invariant-loop-places l = with_each l.turned.items l.places l.number ≡ with_each l.fn.turned.items l.fn.places l.number

abbrev pub decreases-loop-places : goal.decreases-loop-places
decreases-loop-places l = length l.places
