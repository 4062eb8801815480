use Rattle.std.proofs.Common.{refl}
use Rattle.rls_expr.specs.Scopes.{in_scope}
use Rattle.rls_explain.proofs.DetailLemmas.{consulted_all}
use Rattle.rls_explain.proofs.detailing.consult_all.Goals as goal

-- each policy of the table is asked for
pub returns : goal.returns
returns c =
    let judged = c.args.judged in
    consulted_all c.consult_each.result c.args.catalog.now c.args.catalog.now judged.relations.now judged.role.now (in_scope c.args.from) c.args.side c.args.kind judged.row.now c.policies-policies.result.now
    refl c.policies-policies.ensures.policies c.consult_each.ensures
