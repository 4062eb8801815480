use Rattle.std.proofs.Common.{◌≡◌, ◌++◌, drop}
use Rattle.rls_expr.specs.Selecting.{names_where}
use Rattle.rls_dml.specs.{Checking.columns_at, Inserting.is_given}
use Rattle.rls_dml.proofs.inserting.columns_given.Given as goal

-- the names so far, and those of the columns that are left, are all
abbrev pub invariant-loop-place : goal.invariant-loop-place
invariant-loop-place l = l.names ++ names_where (is_given l.places l.tuples) l.place (drop l.place l.columns) ≡ columns_at (is_given l.places l.tuples) l.columns
