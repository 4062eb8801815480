use Rattle.std.proofs.Common.{◌≡◌, drop, map}
use Rattle.std.specs.Prelude.{nat_eq}
use Rattle.std.specs.List.{list_any}
use Rattle.rls_expr.specs.Parts.{mentions}
use Rattle.rls_expr.proofs.columns.some_read.Given as goal

-- it stands in none of the expressions passed: what is left decides
abbrev pub invariant-loop-expr : goal.invariant-loop-expr
invariant-loop-expr l = list_any (mentions (nat_eq l.place) 0) (map (λ expr. expr.now) (drop l.expr-index l.exprs)) ≡ list_any (mentions (nat_eq l.place) 0) (map (λ expr. expr.now) l.exprs)
