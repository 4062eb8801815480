use Rattle.std.proofs.Common.{◌≡◌, ◌++◌, map, drop, length, Ok}
use Rattle.rls_value.specs.Giving.{and_then}
use Rattle.rls_judging.specs.Handed.{datum_values}
use Rattle.rls_dml.specs.Inserting.{row_of_tuple}
use Rattle.rls_dml.specs.Writing.{each_with}
use Rattle.rls_dml.proofs.inserting.rows_of.Given as goal

-- what is left, behind what is made, gives what the whole gives
abbrev pub invariant-loop-tuple : goal.invariant-loop-tuple
invariant-loop-tuple l =
    record {
      rows : each_with (row_of_tuple l.table l.places) l.tuples (map datum_values l.values)
          ≡ and_then (each_with (row_of_tuple l.table l.places) (drop l._tuple-index l.tuples) (map datum_values l.left)) (λ rest. Ok (l.rows ++ rest));
      count : length l.rows ≡ l._tuple-index;
    }
