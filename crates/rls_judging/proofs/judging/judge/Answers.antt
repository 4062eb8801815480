use Rattle.std.proofs.Common.{refl, sym, subst}
use Rattle.std.specs.Prelude.{Ok}
use Rattle.rls_evaluation.specs.rls_source.specs.Askings.{followed_by, known}
use Rattle.rls_evaluation.specs.Holding.{Evaluates}
use Rattle.rls_evaluation.specs.Showing.{shows}
use Rattle.rls_judging.specs.Alike.{first_quals}
use Rattle.rls_judging.specs.Judging.{decisions_on}
use Rattle.rls_judging.specs.Handed.{allowing, beside}
use Rattle.rls_judging.proofs.RowLemmas.{one_item, two_items, verdicts_beside}
use Rattle.rls_judging.proofs.judging.judge.Goals as goal

pub returns-in-len1-clause-tells : goal.returns-in-len1-clause-tells
returns-in-len1-clause-tells g c =
    subst (λ row_checks. Evaluates (followed_by (decisions_on row_checks (shows c.args.check_context.relations.now c.args.check_context.role.now) c.args.check_context.role.now c.args.id c.args.row.now) (λ said. known (Ok (allowing c.args.decisions.now.items said))))
    (g.T.Tables.state c.args.tables.now) (g.T.Tables.state c.judge_one.new.tables) c.args.execution.now.read_set c.judge_one.new.execution.read_set (beside c.judge_one.new.decisions.items c.judge_one.result))
    (sym (one_item c.args.check_context.row_checks.now c.only-item.result c.in-len1.len_at_least c.in-len1.len_below c.only-item.is)) c.judge_one.ensures.tells

pub returns-in-len2-clause-tells : goal.returns-in-len2-clause-tells
returns-in-len2-clause-tells g c =
    subst (λ row_checks. Evaluates (followed_by (decisions_on row_checks (shows c.args.check_context.relations.now c.args.check_context.role.now) c.args.check_context.role.now c.args.id c.args.row.now) (λ said. known (Ok (allowing c.args.decisions.now.items said))))
    (g.T.Tables.state c.args.tables.now) (g.T.Tables.state c.judge_both.new.tables) c.args.execution.now.read_set c.judge_both.new.execution.read_set (beside c.judge_both.new.decisions.items c.judge_both.result))
    (sym (two_items c.args.check_context.row_checks.now c.first-item.result c.second-item.result c.in-len2.len_at_least c.in-len2.len_below c.first-item.is c.second-item.is)) c.judge_both.ensures.tells

pub returns-in_default-clause-kept : goal.returns-in_default-clause-kept
returns-in_default-clause-kept g c =
    verdicts_beside (first_quals c.args.check_context.row_checks.now) c.args.check_context.relations.now c.args.check_context.role.now
    (followed_by (decisions_on c.args.check_context.row_checks.now (shows c.args.check_context.relations.now c.args.check_context.role.now) c.args.check_context.role.now c.args.id c.args.row.now) (λ said. known (Ok (allowing c.args.decisions.now.items said))))
    (g.T.Tables.state c.args.tables.now) (g.T.Tables.state c.judge_each.new.tables) c.args.execution.now.read_set c.judge_each.new.execution c.judge_each.new.decisions.items c.judge_each.result c.args.verdicts.now _ refl refl refl
    c.judge_each.ensures.tells c.judge_each.ensures.holds c.requires.kept
