use Rattle.std.proofs.Common.{◌≡◌, drop}
use Rattle.rls_expr.specs.Tables.{typed_column}
use Rattle.rls_expr.proofs.table.typed_place.Given as goal

-- the columns passed have other names: what is left gives what the whole gives
abbrev pub invariant-loop-place : goal.invariant-loop-place
invariant-loop-place l = typed_column 0 l.columns l.name ≡ typed_column l.place (drop l.place l.columns) l.name
