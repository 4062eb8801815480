use Rattle.std.proofs.Common.{◌≡◌, map, take}
use Rattle.rls_dml.specs.Listings.{values_of}
use Rattle.rls_dml.proofs.replying.rows_of_items.Given as goal

-- the first rows give their values
abbrev pub invariant-loop-row : goal.invariant-loop-row
invariant-loop-row l = l.all.items ≡ map (values_of l.items l.role) (map (λ row. row.now) (take l.row-index l.rows))
