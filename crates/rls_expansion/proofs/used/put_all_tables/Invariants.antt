use Rattle.std.proofs.Common.{◌≡◌, ◌++◌, drop}
use Rattle.rls_expansion.specs.Used.{all_tables}
use Rattle.rls_expansion.proofs.used.put_all_tables.Given as goal

-- the tables so far, and those of the expressions that are left, are all
abbrev pub invariant-loop-expr : goal.invariant-loop-expr
invariant-loop-expr l = l.tables ++ all_tables (drop l.expr-index l.exprs) ≡ l.fn.tables ++ all_tables l.exprs
