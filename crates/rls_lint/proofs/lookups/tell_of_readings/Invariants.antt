use Rattle.std.proofs.Common.{◌≡◌, ◌++◌, drop}
use Rattle.std.specs.List.{flat_map}
use Rattle.rls_expr.specs.Scopes.{in_scope}
use Rattle.rls_lint.specs.Findings.{told_of}
use Rattle.rls_lint.specs.Lookups.{lookup_of}
use Rattle.rls_lint.proofs.lookups.tell_of_readings.Given as goal

-- the findings so far, and those of the tables that are left, are all
abbrev pub invariant-loop-other : goal.invariant-loop-other
invariant-loop-other l =
    let from = in_scope l.from in
    let told = lookup_of l.how l.linted.state.now from l.linted.users.now l.policy l.readings in
    l.findings ++ told_of from (flat_map told (drop l.other-index l.linted.tables.now)) ≡ l.fn.findings ++ told_of from (flat_map told l.linted.tables.now)
