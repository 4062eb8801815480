use Rattle.std.proofs.Common.{refl, subst}
use Rattle.std.specs.Prelude.{Ok}
use Rattle.rls_guard.specs.rls_catalog.specs.rls_expr.specs.Terms.{maybe_term}
use Rattle.rls_evaluation.specs.rls_source.specs.Askings.{followed_by, known}
use Rattle.rls_evaluation.specs.Holding.{Evaluates}
use Rattle.rls_evaluation.specs.Showing.{shows}
use Rattle.rls_judging.specs.Judging.{decisions_on, qualifies_if}
use Rattle.rls_judging.specs.Handed.{allowing}
use Rattle.rls_evaluation.proofs.CachedVerdictLemmas.{verdicts_after}
use Rattle.rls_judging.specs.Alike.{first_quals}
use Rattle.rls_judging.proofs.RowLemmas.{old_told}
use Rattle.rls_judging.proofs.judging.judge_old.Goals as goal

pub returns-clause-tells : goal.returns-clause-tells
returns-clause-tells g c =
    old_told c.args.check_context.row_checks.now (maybe_term c.args.condition.now) (shows c.args.check_context.relations.now c.args.check_context.role.now) c.args.check_context.role.now c.args.stored.now
    c.args.decisions.now.items c.judge.new.decisions.items c.in_ok-allowed.allowed
    (g.T.Tables.state c.args.tables.now) (g.T.Tables.state c.judge.new.tables) (g.T.Tables.state c.qualifies.new.tables) c.args.execution.now.read_set c.judge.new.execution.read_set c.qualifies.new.execution.read_set c.qualifies.result
    (subst (λ row. Evaluates (followed_by (decisions_on c.args.check_context.row_checks.now (shows c.args.check_context.relations.now c.args.check_context.role.now) c.args.check_context.role.now c.args.stored.now.id row) (λ said. known (Ok (allowing c.args.decisions.now.items said))))
    (g.T.Tables.state c.args.tables.now) (g.T.Tables.state c.judge.new.tables) c.args.execution.now.read_set c.judge.new.execution.read_set (Ok (c.judge.new.decisions.items, c.in_ok-allowed.allowed))) c.row-row.ensures
    (subst (λ id. Evaluates (followed_by (decisions_on c.args.check_context.row_checks.now (shows c.args.check_context.relations.now c.args.check_context.role.now) c.args.check_context.role.now id c.row-row.result.now) (λ said. known (Ok (allowing c.args.decisions.now.items said))))
    (g.T.Tables.state c.args.tables.now) (g.T.Tables.state c.judge.new.tables) c.args.execution.now.read_set c.judge.new.execution.read_set (Ok (c.judge.new.decisions.items, c.in_ok-allowed.allowed))) c.id.ensures c.in_ok-allowed.ensures.tells))
    (subst (λ row. Evaluates (qualifies_if c.in_ok-allowed.allowed (maybe_term c.args.condition.now) (shows c.args.check_context.relations.now c.args.check_context.role.now) c.args.check_context.role.now row)
    (g.T.Tables.state c.judge.new.tables) (g.T.Tables.state c.qualifies.new.tables) c.judge.new.execution.read_set c.qualifies.new.execution.read_set c.qualifies.result) c.row-row.ensures c.qualifies.ensures.tells)

pub returns-clause-kept : goal.returns-clause-kept
returns-clause-kept g c =
    verdicts_after (first_quals c.args.check_context.row_checks.now) c.args.check_context.relations.now c.args.check_context.role.now
    (qualifies_if c.in_ok-allowed.allowed (maybe_term c.args.condition.now) (shows c.args.check_context.relations.now c.args.check_context.role.now) c.args.check_context.role.now c.row-row.result.now)
    (g.T.Tables.state c.judge.new.tables) (g.T.Tables.state c.qualifies.new.tables) c.judge.new.execution.read_set c.qualifies.new.execution c.qualifies.result c.judge.new.verdicts c.judge.new.verdicts refl refl refl
    c.qualifies.ensures.tells c.qualifies.ensures.holds c.in_ok-allowed.ensures.kept
