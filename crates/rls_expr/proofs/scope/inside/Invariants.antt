use Rattle.std.proofs.Common.{◌≡◌, ◌∷◌, take}
use Rattle.rls_expr.proofs.scope.inside.Given as goal

-- the first tables stand behind the one
abbrev pub invariant-loop-table : goal.invariant-loop-table
invariant-loop-table l = l.all.items ≡ l.fn.from ∷ take l.table-index l.tables
