use Rattle.std.proofs.Common.{◌≡◌, ◌++◌}
use Rattle.rls_conflict.proofs.places.Places.to_vec.Given as goal

-- what was copied, with what is left
abbrev pub invariant-loop-place : goal.invariant-loop-place
invariant-loop-place l = l.places.items ++ l.place-iterator ≡ l.self
