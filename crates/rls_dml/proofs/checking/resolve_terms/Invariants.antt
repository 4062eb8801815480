use Rattle.std.proofs.Common.{◌≡◌, map, take}
use Rattle.rls_expr.specs.Resolving.{names_in}
use Rattle.rls_dml.specs.Checking.{resolved_in}
use Rattle.rls_dml.proofs.checking.resolve_terms.Given as goal

-- the first expressions are resolved
abbrev pub invariant-loop-expr : goal.invariant-loop-expr
invariant-loop-expr l = l.resolved ≡ map (resolved_in (names_in l.scope)) (take l.expr-index l.exprs)
