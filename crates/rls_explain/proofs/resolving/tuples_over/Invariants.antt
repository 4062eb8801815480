use Rattle.std.proofs.Common.{◌≡◌, ◌++◌, drop, map}
use Rattle.rls_meaning.specs.rls_dml.specs.{Checking.names_over_none, Inserting.tuple_resolved}
use Rattle.rls_explain.proofs.resolving.tuples_over.Given as goal

-- those so far, and those that are left, are all
abbrev pub invariant-loop-tuple : goal.invariant-loop-tuple
invariant-loop-tuple l = l.resolved ++ map (tuple_resolved (names_over_none l.known)) (drop l.tuple-index l.tuples) ≡ map (tuple_resolved (names_over_none l.known)) l.tuples
