use Rattle.std.proofs.Common.{◌≡◌, ◌++◌, map}
use Rattle.rls_expr.specs.Scopes.{in_scope}
use Rattle.rls_explain.specs.{Details.consulted_in, Found.sight_found}
use Rattle.rls_explain.proofs.detailing.consult_each.Given as goal

-- the policies so far, and those that are left, are all
abbrev pub invariant-loop-policy : goal.invariant-loop-policy
invariant-loop-policy l =
    let tells = consulted_in l.catalog (sight_found l.catalog l.judged.relations.now l.judged.role.now) l.judged.role.now (in_scope l.from) l.side l.kind l.judged.row.now in
    l.all.items ++ map tells l.policy-iterator ≡ map tells l.policies
