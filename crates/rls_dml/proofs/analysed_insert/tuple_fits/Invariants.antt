use Rattle.std.proofs.Common.{◌≡◌, length}
use Rattle.rls_dml.specs.Inserting.{tuple_fits}
use Rattle.rls_dml.proofs.analysed_insert.tuple_fits.Given as goal

-- what is left fits where the whole does
abbrev pub invariant-loop-tuple : goal.invariant-loop-tuple
invariant-loop-tuple l = tuple_fits l.columns l.places l.tuple ≡ tuple_fits l.columns l.fn.places l.fn.tuple

abbrev pub decreases-loop-tuple : goal.decreases-loop-tuple
decreases-loop-tuple l = length l.tuple
