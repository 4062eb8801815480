use Rattle.std.proofs.Common.{◌≡◌, ◌++◌, drop}
use Rattle.rls_meaning.specs.rls_dml.specs.{Checking.names_over_none, Inserting.tuple_resolved}
use Rattle.rls_explain.proofs.resolving.tuple_over.Given as goal

-- those so far, and those that are left, are all
abbrev pub invariant-loop-expr : goal.invariant-loop-expr
invariant-loop-expr l = l.resolved ++ tuple_resolved (names_over_none l.known) (drop l.expr-index l.tuple) ≡ tuple_resolved (names_over_none l.known) l.tuple
