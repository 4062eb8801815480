use Rattle.std.proofs.Common.{◌≡◌, ◌++◌, map, drop, Some}
use Rattle.rls_statement.proofs.privileges.put_columns.Given as goal

-- what is left leads to the whole
abbrev pub invariant-loop-column : goal.invariant-loop-column
invariant-loop-column l = l.places ++ map Some (drop l.column-index l.columns) ≡ l.fn.places ++ map Some l.columns
