use Rattle.std.proofs.Common.{◌≡◌, ◌++◌, drop}
use Rattle.rls_expr.specs.ExprTerms.{query_of}
use Rattle.rls_expr.specs.Selecting.{names_where, selects_column}
use Rattle.rls_expr.proofs.selecting.names_selected.Given as goal

-- the names so far, and those of the columns that are left, are all
abbrev pub invariant-loop-place : goal.invariant-loop-place
invariant-loop-place l =
    l.names ++ names_where (selects_column (query_of l.query)) l.place (drop l.place l.columns) ≡ names_where (selects_column (query_of l.query)) 0 l.columns
