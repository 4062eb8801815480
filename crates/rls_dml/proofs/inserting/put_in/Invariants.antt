use Rattle.std.proofs.Common.{◌≡◌, ◌++◌, map}
use Rattle.std.specs.Vec.Iter.{into_iter_items}
use Rattle.rls_dml.specs.Inserting.{inserted_row}
use Rattle.rls_dml.proofs.inserting.put_in.Given as goal

-- the changes so far, and those of the rows that are left, are all
abbrev pub invariant-loop-stored : goal.invariant-loop-stored
invariant-loop-stored l = l.delta ++ map (inserted_row l.table) (into_iter_items l.stored-iterator) ≡ map (inserted_row l.table) l.fn.rows.items
