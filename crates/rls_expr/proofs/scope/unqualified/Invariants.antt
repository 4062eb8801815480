use Rattle.std.proofs.Common.{◌≡◌, drop}
use Rattle.rls_expr.specs.Scopes.{unqualified_from}
use Rattle.rls_expr.proofs.scope.unqualified.Given as goal

-- the tables passed have no such column: what is left gives what the whole gives
abbrev pub invariant-loop-level : goal.invariant-loop-level
invariant-loop-level l = unqualified_from 0 l.tables l.name ≡ unqualified_from l.level (drop l.level l.tables) l.name
