use Rattle.std.proofs.Common.{◌≡◌, map, take}
use Rattle.rls_dml.proofs.replying.new_rows.Given as goal

-- the first rows are there
abbrev pub invariant-loop-stored : goal.invariant-loop-stored
invariant-loop-stored l = map (λ row. row.now) l.rows.items ≡ map (λ stored. stored.row) (take l.stored-index l.new)
