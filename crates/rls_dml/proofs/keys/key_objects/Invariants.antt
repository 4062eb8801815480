use Rattle.std.proofs.Common.{◌≡◌, take}
use Rattle.rls_dml.specs.Writing.{keys_read}
use Rattle.rls_dml.proofs.keys.key_objects.Given as goal

-- the first keys
abbrev pub invariant-loop-key : goal.invariant-loop-key
invariant-loop-key l = l.objects.items ≡ keys_read l.name (take l.key-index l.keys)
