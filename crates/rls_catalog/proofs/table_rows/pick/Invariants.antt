use Rattle.std.proofs.Common.{◌≡◌, ◌++◌}
use Rattle.rls_catalog.specs.KeyIndex.{ids_under, picked}
use Rattle.rls_catalog.proofs.table_rows.pick.Given as goal

-- what is left leads to the whole
abbrev pub invariant-loop-entry : goal.invariant-loop-entry
invariant-loop-entry l =
    l.found.items ++ picked l.key l.rows (ids_under l.key l.entry-iterator) ≡ picked l.key l.rows (ids_under l.key l.initial.entry-iterator)
