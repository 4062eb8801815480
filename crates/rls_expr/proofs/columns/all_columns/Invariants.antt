use Rattle.std.proofs.Common.{◌≡◌, ◌++◌, drop, map}
use Rattle.rls_expr.proofs.columns.all_columns.Given as goal

-- the names so far, and those of the columns that are left, are all
abbrev pub invariant-loop-column : goal.invariant-loop-column
invariant-loop-column l = l.names ++ map (λ column. column.name) (drop l.column-index l.columns) ≡ map (λ column. column.name) l.columns
