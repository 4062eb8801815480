use Rattle.std.proofs.Common.{◌≡◌, map, take}
use Rattle.rls_value.specs.Values.{value_at}
use Rattle.rls_dml.proofs.keys.key_at.Given as goal

-- the values at the first places
abbrev pub invariant-loop-place : goal.invariant-loop-place
invariant-loop-place l = l.values.items ≡ map (value_at l.row) (take l.place-index l.places)
