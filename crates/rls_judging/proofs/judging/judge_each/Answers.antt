use Rattle.std.proofs.Common.{rules, ◌∙◌, ◌≡◌, ◌++◌, ◌∷◌, [], ◌&&◌}
use Rattle.std.specs.Prelude.{List, Ok}
use Rattle.rls_evaluation.specs.rls_source.specs.Askings.{followed_by, known}
use Rattle.rls_evaluation.specs.Showing.{shows, verdict_on}
use Rattle.rls_evaluation.proofs.LoopLemmas.{rows_turn}
use Rattle.rls_evaluation.proofs.Telling.{tells_as}
use Rattle.rls_guard.specs.declared.reply.Decision.{Decision}
use Rattle.rls_judging.specs.Judging.{decisions_on, decision_by, with_decision, are_allowed}
use Rattle.rls_judging.specs.Handed.{allowing}
use Rattle.rls_judging.proofs.RowLemmas.{decided}
use Rattle.rls_judging.proofs.judging.judge_each.Goals as goal

pub loop-row_check-preserved : goal.loop-row_check-preserved
loop-row_check-preserved g c =
    let decision : Decision = record { id = c.args.id; side = c.row_check-item.result.side; kind = c.row_check-item.result.kind; verdict = c.in_ok-verdict.verdict } in
    let pushed : c.push.new.self.items ≡ c.loop-row_check.decisions.items ++ decision ∷ [] = search rules in
    record {
      stands = c.in_ok-verdict.ensures.tells.stands ∙ c.loop-row_check.invariant.stands;
      leads = rows_turn (followed_by (decisions_on c.args.check_context.row_checks.now (shows c.args.check_context.relations.now c.args.check_context.role.now) c.args.check_context.role.now c.args.id c.args.row.now) (λ said. known (Ok (allowing c.args.decisions.now.items said))))
          (λ (rest : List Decision). (c.loop-row_check.decisions.items ++ rest, c.loop-row_check.allowed && are_allowed rest)) (λ (rest : List Decision). (c.push.new.self.items ++ rest, c.both-allowed.result && are_allowed rest)) with_decision []
          (decision_by (shows c.args.check_context.relations.now c.args.check_context.role.now) c.args.check_context.role.now c.args.id c.args.row.now) c.args.check_context.row_checks.now c.loop-row_check.row_check-index c.row_check-item.result decision _ _ _ _ _ _ c.loop-row_check-test.true c.row_check-item.is
          (λ rest. decided c.loop-row_check.decisions.items c.push.new.self.items rest decision c.loop-row_check.allowed c.both-allowed.result pushed (search rules))
          c.loop-row_check.invariant.stands c.loop-row_check.invariant.leads
          (tells_as (verdict_on c.row_check-item.result.quals (shows c.args.check_context.relations.now c.args.check_context.role.now) c.args.check_context.role.now c.args.row.now) (λ verdict. record { id = c.args.id; side = c.row_check-item.result.side; kind = c.row_check-item.result.kind; verdict = verdict }) _ _ _ _ c.in_ok-verdict.verdict decision c.in_ok-verdict.ensures.tells (search rules));
      holds = c.in_ok-verdict.ensures.holds;
    }
