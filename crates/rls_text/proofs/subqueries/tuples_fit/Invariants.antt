use Rattle.std.proofs.Common.{◌≡◌, drop}
use Rattle.rls_text.specs.Nested.{tuples_room}
use Rattle.rls_text.proofs.subqueries.tuples_fit.Given as goal

-- there is room for the tuples passed: what is left decides
abbrev pub invariant-loop-tuple : goal.invariant-loop-tuple
invariant-loop-tuple l = tuples_room l.room (drop l.tuple-index l.tuples) ≡ tuples_room l.room l.tuples
