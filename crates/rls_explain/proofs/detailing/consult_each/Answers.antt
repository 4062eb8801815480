use Rattle.std.proofs.Common.{rules, ◌≡◌, ◌∷◌, ◌∙◌}
use Rattle.rls_expr.specs.Scopes.{in_scope}
use Rattle.rls_explain.specs.{Details.consulted_in, Found.sight_found}
use Rattle.rls_explain.proofs.Lists.{pushed_on}
use Rattle.rls_explain.proofs.detailing.consult_each.Goals as goal

-- one policy more is told
pub loop-policy-preserved : goal.loop-policy-preserved
loop-policy-preserved c =
    let now = c.args.catalog.now in
    let judged = c.args.judged in
    let at = c.loop-policy in
    let left = c.next.new.self in
    let next : at.policy-iterator ≡ c.in-Some.policy.now ∷ left = search rules in
    pushed_on (consulted_in now (sight_found now judged.relations.now judged.role.now) judged.role.now (in_scope c.args.from) c.args.side c.args.kind judged.row.now) c.in-Some.policy.now at.policy-iterator left _ _ _ _ next
    (c.in_ok-one.ensures
    ∙ (λ i. consulted_in now (sight_found now judged.relations.now judged.role.now) judged.role.now (in_scope c.args.from) c.args.side c.args.kind judged.row.now (c.get-policy.ensures i)))
    c.in_ok-push.ensures.items at.invariant
