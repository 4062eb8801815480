use Rattle.std.proofs.Common.{◌≡◌, map, take}
use Rattle.rls_ddl.specs.CreatingTables.{column_in}
use Rattle.rls_ddl.proofs.primary_keys.columns_with.Given as goal

-- the first columns are made
abbrev pub invariant-loop-column : goal.invariant-loop-column
invariant-loop-column l = l.columns.items ≡ map (column_in l.key) (take l.column-index l.marked)
