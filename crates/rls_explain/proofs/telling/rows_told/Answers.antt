use Rattle.std.specs.Borrow.{Bor}
use Rattle.std.proofs.Common.{arith, ap, ◌≡◌, ◌+◌, ◌∷◌, List, drop, map}
use Rattle.std.proofs.lemmas.Grind.{common_steps}
use Rattle.rls_expr.specs.Terms.{maybe_term}
use Rattle.rls_meaning.specs.rls_guard.specs.rls_catalog.specs.declared.stored.Stored.{Stored}
use Rattle.rls_meaning.specs.rls_guard.specs.rls_evaluation.specs.Environments.{over}
use Rattle.rls_explain.specs.{Details.seen_row, Found.sight_found}
use Rattle.rls_explain.proofs.Lists.{pushed_on}
use Rattle.rls_explain.proofs.telling.rows_told.Goals as goal

-- one row more is told
pub loop-stored-preserved : goal.loop-stored-preserved
loop-stored-preserved c =
    let judged = c.args.judged in
    let nows : List (Bor Stored) → List Stored = λ rows. map (λ row. row.now) rows in
    let left : drop c.loop-stored.stored-index c.args.rows.now ≡ c.stored-item.result ∷ drop (c.loop-stored.stored-index + 1) c.args.rows.now = grind (arith, common_steps) in
    pushed_on (seen_row (sight_found c.args.catalog.now judged.relations.now judged.role.now) (over judged.role.now judged.row.now) (maybe_term c.args.condition.now)) c.stored-item.result.now
    (nows (drop c.loop-stored.stored-index c.args.rows.now)) (nows (drop (c.loop-stored.stored-index + 1) c.args.rows.now)) _ _ _ _ (ap nows left) c.in_ok-row_told.ensures c.in_ok-push.ensures.items c.loop-stored.invariant
