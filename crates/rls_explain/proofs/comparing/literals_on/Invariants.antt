use Rattle.std.proofs.Common.{◌≡◌, ◌++◌, drop, map}
use Rattle.rls_expr.specs.Terms.{Literal, terms_of}
use Rattle.rls_meaning.specs.rls_guard.specs.rls_evaluation.specs.Environments.{over}
use Rattle.rls_explain.specs.{Details.values_by, Found.sight_found}
use Rattle.rls_explain.proofs.comparing.literals_on.Given as goal

-- the values so far, and those of the expressions that are left, are all
abbrev pub invariant-loop-expr : goal.invariant-loop-expr
invariant-loop-expr l =
    let given = values_by (sight_found l.catalog l.judged.relations.now l.judged.role.now) (over l.judged.role.now l.judged.row.now) in
    l.literals.items ++ map Literal (given (terms_of (drop l.expr-index l.list))) ≡ map Literal (given (terms_of l.list))
