-- The indexes that are left.
use Rattle.std.proofs.Common.{◌-◌, ◌≤◌, length}
use Rattle.rls_evaluation.proofs.cached_index.place_of_index.Given as goal

abbrev pub decreases-loop-place : goal.decreases-loop-place
decreases-loop-place l = length l.cached_indexes - l.place

abbrev pub invariant-loop-place : goal.invariant-loop-place
invariant-loop-place l = l.place ≤ length l.cached_indexes
