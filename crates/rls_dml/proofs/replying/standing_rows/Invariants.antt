use Rattle.std.proofs.Common.{◌≡◌, map, take}
use Rattle.rls_dml.proofs.replying.standing_rows.Given as goal

-- the first rows are there
abbrev pub invariant-loop-qualifying_row : goal.invariant-loop-qualifying_row
invariant-loop-qualifying_row l = map (λ row. row.now) l.rows.items ≡ map (λ stored. stored.row) (map (λ qualifying_row. qualifying_row.now) (take l.qualifying_row-index l.qualifying_rows))
