use Rattle.std.proofs.Common.{◌≡◌}
use Rattle.rls_expr.specs.Resolving.{names_in}
use Rattle.rls_guard.specs.rls_source.specs.Sequences.{each_of}
use Rattle.rls_guard.specs.rls_source.proofs.EachLemmas.{left}
use Rattle.rls_dml.specs.Updating.{assignment_resolved}
use Rattle.rls_dml.proofs.analysed_update.resolve_assignments.Given as goal

-- what is left, behind what is resolved, gives what the whole gives
abbrev pub invariant-loop-assignment : goal.invariant-loop-assignment
invariant-loop-assignment l = each_of (assignment_resolved l.table.columns (names_in l.scope)) l.assignments ≡ left (assignment_resolved l.table.columns (names_in l.scope)) l.known l.assignments l.assignment-index
