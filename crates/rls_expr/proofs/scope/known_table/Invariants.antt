use Rattle.std.proofs.Common.{◌≡◌, drop}
use Rattle.rls_expr.specs.Scopes.{known_table}
use Rattle.rls_expr.proofs.scope.known_table.Given as goal

-- the tables passed have other names: what is left decides
abbrev pub invariant-loop-table : goal.invariant-loop-table
invariant-loop-table l = known_table (drop l.table-index l.known) l.name ≡ known_table l.known l.name
