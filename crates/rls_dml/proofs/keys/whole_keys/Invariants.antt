use Rattle.std.proofs.Common.{◌≡◌, ◌++◌, drop}
use Rattle.rls_dml.specs.Writing.{keys_of}
use Rattle.rls_dml.proofs.keys.whole_keys.Given as goal

-- the keys so far, and those of the rows that are left, are all
abbrev pub invariant-loop-stored : goal.invariant-loop-stored
invariant-loop-stored l = l.keys.items ++ keys_of (drop l.stored-index l.rows) ≡ keys_of l.rows
