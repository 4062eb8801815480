use Rattle.std.proofs.Common.{◌∷◌, []}
use Rattle.rls_evaluation.specs.Showing.{shows}
use Rattle.rls_evaluation.proofs.Telling.{tells_as}
use Rattle.rls_judging.specs.Alike.{decided_by}
use Rattle.rls_judging.specs.Judging.{decisions_on}
use Rattle.rls_judging.specs.Handed.{allowing}
use Rattle.rls_judging.proofs.RowLemmas.{one_put, one_told}
use Rattle.rls_judging.proofs.judging.judge_one.Goals as goal

pub returns-clause-tells : goal.returns-clause-tells
returns-clause-tells g c =
    let sees = shows c.args.check_context.relations.now c.args.check_context.role.now in
    tells_as (decisions_on (c.args.only.now ∷ []) sees c.args.check_context.role.now c.args.id c.args.row.now) (allowing c.args.decisions.now.items) _ _ _ _
    (decided_by c.args.id c.in_ok-verdict.verdict c.args.only.now ∷ []) (c.put_last.new.decisions.items, c.allows-allowed.result)
    (one_told c.args.only.now sees c.args.check_context.role.now c.args.id c.args.row.now _ _ _ _ c.in_ok-verdict.verdict c.in_ok-verdict.ensures.tells)
    (one_put c.args.id c.in_ok-verdict.verdict c.args.only.now c.args.decisions.now.items c.put_last.new.decisions.items c.allows-allowed.result c.in_ok-put_last.ensures c.allows-allowed.ensures)
