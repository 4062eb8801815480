use Rattle.std.proofs.Common.{◌≡◌, ◌++◌, map, take}
use Rattle.rls_value.specs.Values.{value_at}
use Rattle.rls_dml.proofs.keys.is_key_at.Given as goal

-- the key has the values at the first places, then what is left
abbrev pub invariant-loop-place : goal.invariant-loop-place
invariant-loop-place l = l.key ≡ map (value_at l.row) (take l.place-index l.places) ++ l.left
