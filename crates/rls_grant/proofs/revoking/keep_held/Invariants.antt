use Rattle.std.proofs.Common.{◌≡◌, filter}
use Rattle.std.specs.BTreeSet.{contains}
use Rattle.std.specs.List.{fold}
use Rattle.rls_verdict.specs.rls_catalog.specs.State.{name_order}
use Rattle.rls_grant.specs.Revoking.{stays}
use Rattle.rls_grant.proofs.GrantPlaces.{left_at}
use Rattle.rls_grant.proofs.revoking.keep_held.Given as goal

-- what is left leads to the whole
abbrev pub invariant-loop-grant : goal.invariant-loop-grant
invariant-loop-grant l = fold (left_at (stays (contains name_order l.holders) l.privilege)) l.left l.grant-iterator ≡ filter (stays (contains name_order l.holders) l.privilege) l.fn.grants
