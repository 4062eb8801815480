use Rattle.std.proofs.Common.{◌∙◌, ◌++◌, []}
use Rattle.std.specs.Prelude.{List}
use Rattle.rls_evaluation.specs.Showing.{shows}
use Rattle.rls_evaluation.proofs.LoopLemmas.{rows_turn}
use Rattle.rls_guard.specs.declared.reply.Decision.{Decision}
use Rattle.rls_judging.specs.Judging.{judged_new, decisions_on, with_decisions}
use Rattle.rls_judging.specs.Handed.{allowing}
use Rattle.rls_judging.proofs.RowLemmas.{said_more, told_before}
use Rattle.rls_judging.proofs.judging.judge_new.Goals as goal

pub loop-stored-preserved : goal.loop-stored-preserved
loop-stored-preserved g c =
    let parts = told_before (decisions_on c.args.check_context.row_checks.now (shows c.args.check_context.relations.now c.args.check_context.role.now) c.args.check_context.role.now c.stored-item.result.id c.stored-item.result.row)
    (allowing c.loop-stored.decisions.items) (g.T.Tables.state c.loop-stored.tables) (g.T.Tables.state c.judge.new.tables) c.loop-stored.execution.read_set c.judge.new.execution.read_set (c.judge.new.decisions.items, c.in_ok-judge.field-0) c.in_ok-judge.ensures.tells in
    record {
      stands = c.in_ok-judge.ensures.tells.stands ∙ c.loop-stored.invariant.stands;
      leads = rows_turn (judged_new c.args.check_context.row_checks.now c.args.check_context.relations.now c.args.check_context.role.now c.args.rows.now)
          (λ (rest : List Decision). c.loop-stored.decisions.items ++ rest) (λ (rest : List Decision). c.judge.new.decisions.items ++ rest)
          with_decisions [] (λ stored. decisions_on c.args.check_context.row_checks.now (shows c.args.check_context.relations.now c.args.check_context.role.now) c.args.check_context.role.now stored.id stored.row)
          c.args.rows.now c.loop-stored.stored-index c.stored-item.result parts.0 (g.T.Tables.state c.args.tables.now) (g.T.Tables.state c.loop-stored.tables) (g.T.Tables.state c.judge.new.tables) c.args.execution.now.read_set c.loop-stored.execution.read_set c.judge.new.execution.read_set
          c.loop-stored-test.true c.stored-item.is
          (λ rest. said_more c.loop-stored.decisions.items c.judge.new.decisions.items parts.0 c.in_ok-judge.field-0 rest parts.1.1)
          c.loop-stored.invariant.stands c.loop-stored.invariant.leads parts.1.0;
      kept = c.in_ok-judge.ensures.kept;
      holds = c.in_ok-judge.ensures.holds;
    }
