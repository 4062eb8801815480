use Rattle.std.proofs.Common.{◌≡◌, map}
use Rattle.std.specs.List.{fold}
use Rattle.rls_grant.specs.Revoking.{without_grant_option}
use Rattle.rls_grant.proofs.GrantPlaces.{revoked_at}
use Rattle.rls_grant.proofs.revoking.revoke_options.Given as goal

-- what is left leads to the whole
abbrev pub invariant-loop-grant : goal.invariant-loop-grant
invariant-loop-grant l = fold (revoked_at l.revoke l.grantors) l.rest l.grant-iterator ≡ map (without_grant_option l.revoke l.grantors) l.grants
