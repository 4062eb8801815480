use Rattle.std.proofs.Common.{◌≡◌, map, take}
use Rattle.rls_dml.specs.Checking.{names_over_none}
use Rattle.rls_dml.specs.Inserting.{tuple_resolved}
use Rattle.rls_dml.proofs.analysed_insert.resolve_tuples.Given as goal

-- the first tuples are resolved
abbrev pub invariant-loop-tuple : goal.invariant-loop-tuple
invariant-loop-tuple l = l.resolved ≡ map (tuple_resolved (names_over_none l.known)) (take l.tuple-index l.tuples)
