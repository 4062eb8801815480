use Rattle.std.proofs.Common.{◌≡◌, ◌++◌, drop}
use Rattle.std.specs.List.{flat_map}
use Rattle.rls_lint.specs.Findings.{findings_on}
use Rattle.rls_lint.proofs.listing.all_findings.Given as goal

-- the findings so far, and those about the tables that are left, are all
abbrev pub invariant-loop-from : goal.invariant-loop-from
invariant-loop-from l =
    let on = findings_on l.linted.state.now l.linted.roles.now l.linted.users.now l.linted.tables.now in
    l.findings ++ flat_map on (drop l.from-index l.linted.tables.now) ≡ flat_map on l.linted.tables.now
