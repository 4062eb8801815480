use Rattle.std.proofs.Common.{◌≡◌, ◌++◌, map}
use Rattle.rls_catalog.specs.State.{stored_of}
use Rattle.rls_catalog.proofs.table_rows.Rows.lend.Given as goal

-- what is left leads to the whole
abbrev pub invariant-loop-id : goal.invariant-loop-id
invariant-loop-id l = l.listed.items ++ map stored_of l.id-iterator ≡ map stored_of l.self
