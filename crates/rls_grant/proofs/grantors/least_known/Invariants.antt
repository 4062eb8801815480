use Rattle.std.proofs.Common.{◌≡◌, filter, drop}
use Rattle.std.specs.Prelude.{None}
use Rattle.std.specs.Option.{option_copied}
use Rattle.rls_value.specs.Names.{one_of}
use Rattle.rls_verdict.specs.rls_catalog.specs.Verdict.{least}
use Rattle.rls_grant.specs.Holders.{holders_of}
use Rattle.rls_grant.proofs.grantors.least_known.Given as goal

-- what is left leads to the whole
abbrev pub invariant-loop-role : goal.invariant-loop-role
invariant-loop-role l =
    least (option_copied l.found) (filter (one_of (holders_of l.owner l.grants l.privilege)) (drop l.role-index l.roles)) ≡ least None (filter (one_of (holders_of l.owner l.grants l.privilege)) l.roles)
