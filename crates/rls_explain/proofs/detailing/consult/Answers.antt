use Rattle.rls_expr.specs.Scopes.{in_scope}
use Rattle.rls_explain.specs.{Details.asked_in, Found.sight_found}
use Rattle.rls_explain.proofs.ReasonLemmas.{consulted_to}
use Rattle.rls_explain.proofs.detailing.consult.Goals as goal

-- by whose privileges the role has
pub returns : goal.returns
returns c =
    let s = c.args.catalog.now in
    let judged = c.args.judged in
    consulted_to c.consult_by.result c.args.role_privileges.now s judged.role.now c.is_to-to.result (asked_in s (sight_found s judged.relations.now judged.role.now) judged.role.now (in_scope c.args.from) judged.row.now) c.args.kind c.args.side c.args.policy.now
    c.requires c.is_to-to.ensures c.consult_by.ensures
