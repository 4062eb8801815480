use Rattle.std.proofs.Common.{◌≡◌, ◌++◌, map}
use Rattle.std.specs.Vec.Iter.{into_iter_items}
use Rattle.rls_dml.specs.Updating.{changed_rows}
use Rattle.rls_dml.proofs.updating.changes_of.Given as goal

-- the changes so far, and those of the rows that are left, are all
abbrev pub invariant-loop-row : goal.invariant-loop-row
invariant-loop-row l = l.delta ++ changed_rows l.name (map (λ qualifying_row. qualifying_row.now) l.qualifying_rows) (into_iter_items l.row-iterator) ≡ changed_rows l.name (map (λ qualifying_row. qualifying_row.now) l.fn.qualifying_rows) l.fn.new.items
