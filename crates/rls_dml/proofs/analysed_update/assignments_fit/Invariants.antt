use Rattle.std.proofs.Common.{◌≡◌, drop}
use Rattle.rls_dml.specs.Updating.{assignments_fit}
use Rattle.rls_dml.proofs.analysed_update.assignments_fit.Given as goal

-- what was passed fits: what is left decides
abbrev pub invariant-loop-place : goal.invariant-loop-place
invariant-loop-place l = assignments_fit l.columns (drop l.place-index l.assignments) ≡ assignments_fit l.columns l.assignments
