use Rattle.std.proofs.Common.{◌≡◌, ◌++◌, drop}
use Rattle.rls_meaning.specs.rls_dml.specs.Inserting.{tuples_tables}
use Rattle.rls_explain.proofs.resolving.tables_of_tuples.Given as goal

-- the tables so far, and those of the tuples that are left, are all
abbrev pub invariant-loop-tuple : goal.invariant-loop-tuple
invariant-loop-tuple l = l.tables ++ tuples_tables (drop l.tuple-index l.tuples) ≡ tuples_tables l.tuples
