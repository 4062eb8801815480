use Rattle.std.specs.Borrow.{Bor}
use Rattle.std.proofs.Common.{List, map}
use Rattle.rls_expr.specs.ExprTerms.{query_of}
use Rattle.rls_meaning.specs.rls_guard.specs.rls_catalog.specs.declared.stored.Stored.{Stored}
use Rattle.rls_meaning.specs.rls_guard.specs.rls_evaluation.specs.Environments.{over}
use Rattle.rls_explain.proofs.DetailLemmas.{selected_literals}
use Rattle.rls_explain.proofs.comparing.selected_of.Goals as goal

-- the tables look at the state
pub returns : goal.returns
returns c =
    let judged = c.args.judged in
    let nows : List (Bor Stored) → List Stored = λ rows. map (λ row. row.now) rows in
    selected_literals c.select_each-selected.result c.args.catalog.now c.new-tables.result.catalog.now judged.relations.now judged.role.now (over judged.role.now judged.row.now) (query_of c.args.query.now) (nows c.args.rows.now)
    c.new-tables.ensures c.select_each-selected.ensures
