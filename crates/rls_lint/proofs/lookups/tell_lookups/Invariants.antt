use Rattle.std.proofs.Common.{◌≡◌, ◌++◌}
use Rattle.std.specs.List.{flat_map}
use Rattle.rls_expr.specs.Scopes.{in_scope}
use Rattle.rls_catalog.specs.State.{policies_of}
use Rattle.rls_lint.specs.Findings.{told_of}
use Rattle.rls_lint.specs.Lookups.{policy_lookups}
use Rattle.rls_lint.proofs.lookups.tell_lookups.Given as goal

-- the findings so far, and those of the policies that are left, are all
abbrev pub invariant-loop-policy : goal.invariant-loop-policy
invariant-loop-policy l =
    let from = in_scope l.from in
    let told = policy_lookups l.how l.linted.state.now from l.linted.users.now l.linted.tables.now in
    l.findings ++ told_of from (flat_map told l.policy-iterator) ≡ l.fn.findings ++ told_of from (flat_map told (policies_of l.linted.state.now from.0))
