use Rattle.std.proofs.Common.{◌≡◌, drop}
use Rattle.rls_dml.specs.Writing.{has_values}
use Rattle.rls_dml.proofs.writing.row_has_values.Given as goal

-- what is left is refused as the whole is
abbrev pub invariant-loop-place : goal.invariant-loop-place
invariant-loop-place l = has_values l.columns l.order l.stored ≡ has_values l.columns (drop l.place-index l.order) l.stored
