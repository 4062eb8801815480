use Rattle.std.specs.Borrow.{Bor}
use Rattle.std.proofs.Common.{arith, ap, ◌≡◌, ◌+◌, ◌∷◌, ◌++◌, ◌∙◌, List, drop, map}
use Rattle.std.proofs.lemmas.Grind.{common_steps}
use Rattle.rls_expr.specs.ExprTerms.{query_of}
use Rattle.rls_meaning.specs.rls_guard.specs.rls_catalog.specs.declared.stored.Stored.{Stored}
use Rattle.rls_meaning.specs.rls_guard.specs.rls_evaluation.specs.Environments.{over}
use Rattle.rls_explain.specs.Found.{literals_of, sight_found}
use Rattle.rls_explain.proofs.Lists.{put_on}
use Rattle.rls_explain.proofs.comparing.select_each.Goals as goal

-- of one row more it is selected
pub loop-stored-preserved : goal.loop-stored-preserved
loop-stored-preserved g c =
    let judged = c.args.judged in
    let nows : List (Bor Stored) → List Stored = λ rows. map (λ row. row.now) rows in
    let left : drop c.loop-stored.stored-index c.args.rows.now ≡ c.stored-item.result ∷ drop (c.loop-stored.stored-index + 1) c.args.rows.now = grind (arith, common_steps) in
    record {
      stands = c.in_ok-select_from.ensures.stands ∙ c.loop-stored.invariant.stands;
      holds = c.in_ok-select_from.ensures.holds;
      told =
          put_on (literals_of (sight_found (g.T.Tables.state c.args.tables.now) judged.relations.now judged.role.now) (over judged.role.now judged.row.now) (query_of c.args.query.now)) c.stored-item.result.now
          (nows (drop c.loop-stored.stored-index c.args.rows.now)) (nows (drop (c.loop-stored.stored-index + 1) c.args.rows.now)) _ _ _ (ap nows left)
          (c.in_ok-select_from.ensures.selected ∙ (λ i. c.loop-stored.selected.items ++ literals_of (sight_found (c.loop-stored.invariant.stands i) judged.relations.now judged.role.now) (over judged.role.now judged.row.now) (query_of c.args.query.now) c.stored-item.result.now))
          c.loop-stored.invariant.told;
    }
