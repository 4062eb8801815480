use Rattle.std.proofs.Common.{◌≡◌, ◌++◌, drop}
use Rattle.rls_expr.specs.Selecting.{names_where}
use Rattle.rls_dml.specs.{Checking.columns_at, Writing.is_written}
use Rattle.rls_dml.proofs.writing.columns_written.Given as goal

-- the names so far, and those of the columns that are left, are all
abbrev pub invariant-loop-place : goal.invariant-loop-place
invariant-loop-place l = l.names ++ names_where (is_written l.places) l.place (drop l.place l.columns) ≡ columns_at (is_written l.places) l.columns
