use Rattle.std.proofs.Common.{◌≡◌, ◌++◌, drop, map}
use Rattle.rls_dml.proofs.checking.put_terms.Given as goal

-- the expressions so far, and those that are left, are all
abbrev pub invariant-loop-expr : goal.invariant-loop-expr
invariant-loop-expr l = map (λ term. term.now) l.terms.items ++ drop l.expr-index l.exprs ≡ map (λ term. term.now) l.fn.terms.items ++ l.exprs
