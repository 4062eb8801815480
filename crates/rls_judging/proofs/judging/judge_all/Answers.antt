use Rattle.std.proofs.Common.{◌∙◌, ◌++◌, []}
use Rattle.std.specs.Prelude.{List}
use Rattle.rls_guard.specs.rls_catalog.specs.rls_expr.specs.Terms.{maybe_term}
use Rattle.rls_guard.specs.rls_catalog.specs.declared.stored.Stored.{Stored}
use Rattle.rls_evaluation.specs.Showing.{shows}
use Rattle.rls_evaluation.proofs.LoopLemmas.{rows_turn}
use Rattle.rls_guard.specs.declared.reply.Decision.{Decision}
use Rattle.rls_judging.specs.Judging.{judged_all, judged_old, with_judged}
use Rattle.rls_judging.specs.Handed.{behind, rows_borrowed}
use Rattle.rls_judging.proofs.RowLemmas.{found_more, told_before}
use Rattle.rls_judging.proofs.judging.judge_all.Goals as goal

pub loop-stored-preserved : goal.loop-stored-preserved
loop-stored-preserved g c =
    let parts = told_before (judged_old c.args.check_context.row_checks.now (maybe_term c.args.condition.now) (shows c.args.check_context.relations.now c.args.check_context.role.now) c.args.check_context.role.now c.stored-item.result)
    (behind c.loop-stored.decisions.items) (g.T.Tables.state c.loop-stored.tables) (g.T.Tables.state c.judge_old.new.tables) c.loop-stored.execution.read_set c.judge_old.new.execution.read_set (c.judge_old.new.decisions.items, c.in_ok-is.is') c.in_ok-is.ensures.tells in
    record {
      stands = c.in_ok-is.ensures.tells.stands ∙ c.loop-stored.invariant.stands;
      leads = rows_turn (judged_all c.args.check_context.row_checks.now c.args.check_context.relations.now c.args.check_context.role.now c.args.condition.now c.args.scanned_rows.now)
          (λ (rest : List Decision × List Stored). (c.loop-stored.decisions.items ++ rest.0, rows_borrowed c.loop-stored.qualifying_rows ++ rest.1)) (λ (rest : List Decision × List Stored). (c.judge_old.new.decisions.items ++ rest.0, rows_borrowed c.push_if.new.qualifying_rows ++ rest.1))
          with_judged ([], []) (judged_old c.args.check_context.row_checks.now (maybe_term c.args.condition.now) (shows c.args.check_context.relations.now c.args.check_context.role.now) c.args.check_context.role.now)
          c.args.scanned_rows.now c.loop-stored.stored-index c.stored-item.result parts.0 (g.T.Tables.state c.args.tables.now) (g.T.Tables.state c.loop-stored.tables) (g.T.Tables.state c.judge_old.new.tables) c.args.execution.now.read_set c.loop-stored.execution.read_set c.judge_old.new.execution.read_set
          c.loop-stored-test.true c.stored-item.is
          (λ rest. found_more c.loop-stored.decisions.items c.judge_old.new.decisions.items (rows_borrowed c.loop-stored.qualifying_rows) (rows_borrowed c.push_if.new.qualifying_rows) c.stored-item.result parts.0 c.in_ok-is.is' rest parts.1.1 c.in_ok-push_if.ensures)
          c.loop-stored.invariant.stands c.loop-stored.invariant.leads parts.1.0;
      kept = c.in_ok-is.ensures.kept;
      holds = c.in_ok-is.ensures.holds;
    }
