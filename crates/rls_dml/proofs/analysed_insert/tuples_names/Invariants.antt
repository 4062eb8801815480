use Rattle.std.proofs.Common.{◌≡◌, ◌++◌, drop, map}
use Rattle.rls_expr.specs.Naming.{step_of}
use Rattle.rls_dml.specs.Inserting.{tuples_names}
use Rattle.rls_dml.proofs.analysed_insert.tuples_names.Given as goal

-- the steps so far, and those of the tuples that are left, are all
abbrev pub invariant-loop-tuple : goal.invariant-loop-tuple
invariant-loop-tuple l = map step_of l.steps.items ++ tuples_names (drop l.tuple-index l.tuples) ≡ tuples_names l.tuples
