use Rattle.std.proofs.Common.{◌≡◌, ◌++◌, drop}
use Rattle.rls_dml.specs.Inserting as spec
use Rattle.rls_dml.proofs.analysed_insert.put_tuple_selected.Given as goal

-- the tables so far, and those of the expressions that are left, are all
abbrev pub invariant-loop-expr : goal.invariant-loop-expr
invariant-loop-expr l = l.selected ++ spec.tuple_selected l.found (drop l.expr-index l.tuple) ≡ l.fn.selected ++ spec.tuple_selected l.found l.tuple
