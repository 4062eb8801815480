use Rattle.std.proofs.Common.{◌≡◌, map, length}
use Rattle.rls_evaluation.specs.Scoping.{datum_value}
use Rattle.rls_dml.specs.Writing.{assigned}
use Rattle.rls_dml.proofs.writing.assign.Given as goal

-- what is left gives what the whole gives
abbrev pub invariant-loop-left : goal.invariant-loop-left
invariant-loop-left l = assigned l.columns l.places_left (map datum_value l.left) l.row.items ≡ assigned l.columns l.places (map datum_value l.values) l.fn.row.items

abbrev pub decreases-loop-left : goal.decreases-loop-left
decreases-loop-left l = length l.left
