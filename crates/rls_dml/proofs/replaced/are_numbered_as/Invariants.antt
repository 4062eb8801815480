use Rattle.std.proofs.Common.{◌≡◌, drop, map}
use Rattle.rls_dml.specs.Numbers.{are_numbered_as}
use Rattle.rls_dml.proofs.replaced.are_numbered_as.Given as goal

-- what is left of both tells it for all
abbrev pub invariant-loop-row : goal.invariant-loop-row
invariant-loop-row l = are_numbered_as l.rows (map (λ row. row.now) l.others) ≡ are_numbered_as (drop l.row-index l.rows) (map (λ row. row.now) l.left)
