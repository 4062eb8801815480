use Rattle.std.proofs.Common.{◌≡◌, map, take}
use Rattle.rls_dml.proofs.replying.whole_rows.Given as goal

-- the first rows are copied
abbrev pub invariant-loop-row : goal.invariant-loop-row
invariant-loop-row l = l.copies.items ≡ map (λ row. row.now) (take l.row-index l.rows)
