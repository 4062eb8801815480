use Rattle.std.proofs.Common.{◌≡◌, length}
use Rattle.rls_check.specs.GraphSteps.{turned_of, turned_on}
use Rattle.rls_check.proofs.neighbours.turned.Given as goal

-- those that are left lead to what all do
abbrev pub invariant-loop-numbers : goal.invariant-loop-numbers
invariant-loop-numbers l = turned_on l.turned.items l.sets l.numbers ≡ turned_of l.count l.sets l.fn.numbers

abbrev pub decreases-loop-numbers : goal.decreases-loop-numbers
decreases-loop-numbers l = length l.numbers
