use Rattle.std.proofs.Common.{◌≡◌, drop}
use Rattle.rls_expr.specs.Terms.{terms_of}
use Rattle.rls_text.specs.Heights.{set_values}
use Rattle.rls_text.specs.Nested.{have_room}
use Rattle.rls_text.proofs.subqueries.assignments_fit.Given as goal

-- there is room for the assignments passed: what is left decides
abbrev pub invariant-loop-assignment : goal.invariant-loop-assignment
invariant-loop-assignment l = have_room l.room (terms_of (set_values (drop l.assignment-index l.assignments))) ≡ have_room l.room (terms_of (set_values l.assignments))
