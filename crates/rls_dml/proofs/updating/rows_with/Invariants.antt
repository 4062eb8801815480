use Rattle.std.proofs.Common.{◌≡◌, ◌++◌, map, drop, Ok}
use Rattle.rls_value.specs.Giving.{and_then}
use Rattle.rls_evaluation.specs.Scoping.{datum_value}
use Rattle.rls_dml.specs.Updating.{updated_rows}
use Rattle.rls_dml.proofs.updating.rows_with.Given as goal

-- what is left, behind what is made, gives what the whole gives
abbrev pub invariant-loop-qualifying_row : goal.invariant-loop-qualifying_row
invariant-loop-qualifying_row l = updated_rows l.table l.places (map (λ qualifying_row. qualifying_row.now) l.qualifying_rows) (map datum_value l.values)
    ≡ and_then (updated_rows l.table l.places (map (λ qualifying_row. qualifying_row.now) (drop l.qualifying_row-index l.qualifying_rows)) (map datum_value l.left)) (λ rest. Ok (l.rows ++ rest))
