use Rattle.std.specs.Vec.Iter.{into_iter_items}
use Rattle.std.proofs.Common.{rules, ◌≡◌, ◌∷◌}
use Rattle.rls_expr.specs.Scopes.{in_scope}
use Rattle.rls_explain.specs.Found.{with_details_found}
use Rattle.rls_explain.proofs.Lists.{pushed_on}
use Rattle.rls_explain.proofs.detailing.detail_each.Goals as goal

-- one decision more is told
pub loop-one-preserved : goal.loop-one-preserved
loop-one-preserved c =
    let at = c.loop-one in
    let left = into_iter_items c.next.new.self in
    let next : into_iter_items at.one-iterator ≡ c.in-Some.one ∷ left = search rules in
    pushed_on (with_details_found c.args.catalog.now c.args.relations.now c.args.role.now (in_scope c.args.from)) c.in-Some.one (into_iter_items at.one-iterator) left _ _ _ _ next
    c.in_ok-detailed.ensures c.in_ok-push.ensures.items at.invariant
