use Rattle.std.proofs.Common.{◌≡◌, drop}
use Rattle.rls_expr.specs.Scopes.{qualified_from}
use Rattle.rls_expr.proofs.scope.qualified.Given as goal

-- the tables passed have another qualifier: what is left gives what the whole gives
abbrev pub invariant-loop-level : goal.invariant-loop-level
invariant-loop-level l = qualified_from 0 l.tables l.qualifier l.name ≡ qualified_from l.level (drop l.level l.tables) l.qualifier l.name
