use Rattle.std.proofs.Common.{◌≡◌, ◌++◌, drop}
use Rattle.rls_dml.specs.Inserting as spec
use Rattle.rls_dml.proofs.analysed_insert.tuples_selected.Given as goal

-- the tables so far, and those of the tuples that are left, are all
abbrev pub invariant-loop-tuple : goal.invariant-loop-tuple
invariant-loop-tuple l = l.selected ++ spec.tuples_selected l.found (drop l.tuple-index l.tuples) ≡ spec.tuples_selected l.found l.tuples
