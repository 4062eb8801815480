use Rattle.std.proofs.Common.{◌≡◌, ◌++◌, drop}
use Rattle.rls_expr.specs.Resolving.{columns_from}
use Rattle.rls_expr.proofs.resolving.all_columns.Given as goal

-- the items so far, and those of the columns that are left, are all
abbrev pub invariant-loop-column : goal.invariant-loop-column
invariant-loop-column l = l.items ++ columns_from l.column (drop l.column l.columns) ≡ columns_from 0 l.columns
