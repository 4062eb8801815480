use Rattle.std.proofs.Common.{◌≡◌, map, take}
use Rattle.rls_dml.specs.Deleting.{deleted_row}
use Rattle.rls_dml.proofs.deleting.changes_of.Given as goal

-- the first rows have their changes
abbrev pub invariant-loop-qualifying_row : goal.invariant-loop-qualifying_row
invariant-loop-qualifying_row l = l.delta ≡ map (deleted_row l.name) (map (λ qualifying_row. qualifying_row.now) (take l.qualifying_row-index l.qualifying_rows))
