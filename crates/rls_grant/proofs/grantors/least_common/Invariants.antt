use Rattle.std.proofs.Common.{◌≡◌, filter, drop}
use Rattle.std.specs.Prelude.{None}
use Rattle.std.specs.Option.{option_copied}
use Rattle.std.specs.BTreeSet.{contains}
use Rattle.rls_verdict.specs.rls_catalog.specs.State.{name_order}
use Rattle.rls_verdict.specs.rls_catalog.specs.Verdict.{least}
use Rattle.rls_grant.proofs.grantors.least_common.Given as goal

-- what is left leads to the whole
abbrev pub invariant-loop-role : goal.invariant-loop-role
invariant-loop-role l = least (option_copied l.best) (filter (contains name_order l.holders) (drop l.role-index l.roles)) ≡ least None (filter (contains name_order l.holders) l.roles)
