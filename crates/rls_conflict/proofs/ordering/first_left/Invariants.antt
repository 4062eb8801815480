use Rattle.std.proofs.Common.{◌≡◌, ◌<◌, ℕ, true}
use Rattle.rls_conflict.specs.Ordering.{placed_in}
use Rattle.rls_conflict.proofs.ordering.first_left.Given as goal

-- all before are placed
abbrev pub invariant-loop-place : goal.invariant-loop-place
invariant-loop-place l = (i : ℕ) → i < l.place → placed_in l.placed i ≡ true
