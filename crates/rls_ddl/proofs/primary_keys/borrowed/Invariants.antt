use Rattle.std.proofs.Common.{◌≡◌, take}
use Rattle.rls_ddl.proofs.primary_keys.borrowed.Given as goal

-- the first names are borrowed
abbrev pub invariant-loop-name : goal.invariant-loop-name
invariant-loop-name l = l.borrowed.items ≡ take l.name-index l.names
