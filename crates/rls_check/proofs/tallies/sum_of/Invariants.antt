use Rattle.std.proofs.Common.{◌≡◌, length}
use Rattle.rls_check.specs.Tallies.{no_tally, sum_from}
use Rattle.rls_check.proofs.tallies.sum_of.Given as goal

-- those that are left lead to what all do
abbrev pub invariant-loop-tallies : goal.invariant-loop-tallies
invariant-loop-tallies l = sum_from l.sum l.tallies ≡ sum_from no_tally l.fn.tallies

abbrev pub decreases-loop-tallies : goal.decreases-loop-tallies
decreases-loop-tallies l = length l.tallies
