use Rattle.std.proofs.Common.{◌≡◌, ◌++◌, drop}
use Rattle.rls_dml.specs.Updating as spec
use Rattle.rls_dml.proofs.analysed_update.put_assignments_selected.Given as goal

-- the tables so far, and those of the assignments that are left, are all
abbrev pub invariant-loop-assignment : goal.invariant-loop-assignment
invariant-loop-assignment l = l.selected ++ spec.assignments_selected l.found (drop l.assignment-index l.assignments) ≡ l.fn.selected ++ spec.assignments_selected l.found l.assignments
