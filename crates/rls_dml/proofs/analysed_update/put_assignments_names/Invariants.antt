use Rattle.std.proofs.Common.{◌≡◌, ◌++◌, drop, map}
use Rattle.rls_expr.specs.Naming.{step_of}
use Rattle.rls_dml.specs.Updating.{assignments_names}
use Rattle.rls_dml.proofs.analysed_update.put_assignments_names.Given as goal

-- the steps so far, and those of the assignments that are left, are all
abbrev pub invariant-loop-assignment : goal.invariant-loop-assignment
invariant-loop-assignment l = map step_of l.steps.items ++ assignments_names (drop l.assignment-index l.assignments) ≡ map step_of l.fn.steps.items ++ assignments_names l.assignments
