use Rattle.std.proofs.Common.{rules, ◌≡◌, ◌∙◌}
use Rattle.std.specs.List.{fold}
use Rattle.rls_grant.proofs.GrantPlaces.{each_revoked, revoked_at}
use Rattle.rls_grant.proofs.revoking.revoke_options.Goals as goal

pub loop-grant-init : goal.loop-grant-init
loop-grant-init c =
    let all : c.into_iter-grant-iterator.result ≡ c.args.grants.now = search rules in
    (λ i. fold (revoked_at c.args.revoke.now c.args.grantors.now) (c.in_ok-rest.ensures i) (all i))
    ∙ each_revoked c.args.revoke.now c.args.grantors.now c.args.grants.now c.iter-grant-items.ensures.ordered
