use Rattle.std.proofs.Common.{◌≡◌, map, take}
use Rattle.rls_dml.proofs.replaced.list_numbers.Given as goal

-- the numbers of the first rows
abbrev pub invariant-loop-row : goal.invariant-loop-row
invariant-loop-row l = l.numbers.items ≡ map (λ stored. stored.id) (map (λ row. row.now) (take l.row-index l.rows))
