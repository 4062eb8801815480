use Rattle.std.proofs.Common.{◌≡◌, ◌++◌, map}
use Rattle.rls_catalog.specs.State.{stored_of, with_key}
use Rattle.rls_catalog.proofs.table_rows.seek.Given as goal

-- what is left leads to the whole
abbrev pub invariant-loop-id : goal.invariant-loop-id
invariant-loop-id l = l.found.items ++ with_key l.key (map stored_of l.id-iterator) ≡ with_key l.key (map stored_of l.initial.id-iterator)
