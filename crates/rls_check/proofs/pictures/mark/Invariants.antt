use Rattle.std.proofs.Common.{◌≡◌, length}
use Rattle.rls_check.specs.GraphSteps.{drawn_with}
use Rattle.rls_check.proofs.pictures.mark.Given as goal

-- those that are left lead to what all do
abbrev pub invariant-loop-conflicts : goal.invariant-loop-conflicts
invariant-loop-conflicts l = drawn_with l.drawn.items l.conflicts ≡ drawn_with l.fn.drawn.items l.fn.conflicts

abbrev pub decreases-loop-conflicts : goal.decreases-loop-conflicts
decreases-loop-conflicts l = length l.conflicts
