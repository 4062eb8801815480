use Rattle.std.proofs.Common.{◌∷◌, []}
use Rattle.rls_evaluation.specs.Showing.{shows}
use Rattle.rls_evaluation.proofs.Telling.{tells_as}
use Rattle.rls_judging.specs.Alike.{decided_by}
use Rattle.rls_judging.specs.Judging.{decisions_on}
use Rattle.rls_judging.specs.Handed.{allowing}
use Rattle.rls_judging.proofs.RowLemmas.{both_put, both_told}
use Rattle.rls_judging.proofs.judging.judge_both.Goals as goal

pub returns-clause-tells : goal.returns-clause-tells
returns-clause-tells g c =
    let sees = shows c.args.check_context.relations.now c.args.check_context.role.now in
    tells_as (decisions_on (c.args.first.now ∷ c.args.second.now ∷ []) sees c.args.check_context.role.now c.args.id c.args.row.now) (allowing c.args.decisions.now.items) _ _ _ _
    (decided_by c.args.id c.in_ok-verdict.verdict c.args.first.now ∷ decided_by c.args.id c.in_ok-verdict.verdict c.args.second.now ∷ []) (c.put_both.new.decisions.items, c.allows-allowed.result)
    (both_told c.args.first.now c.args.second.now sees c.args.check_context.role.now c.args.id c.args.row.now _ _ _ _ c.in_ok-verdict.verdict c.requires.alike c.in_ok-verdict.ensures.holds.ordered c.in_ok-verdict.ensures.tells)
    (both_put c.args.id c.in_ok-verdict.verdict c.args.first.now c.args.second.now c.args.decisions.now.items c.put_both.new.decisions.items c.allows-allowed.result c.in_ok-put_both.ensures c.allows-allowed.ensures)
