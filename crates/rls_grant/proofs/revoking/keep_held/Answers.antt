use Rattle.std.proofs.Common.{rules, ◌≡◌, ◌∙◌}
use Rattle.std.specs.BTreeSet.{contains}
use Rattle.std.specs.List.{fold}
use Rattle.std.specs.Prelude.{Bool}
use Rattle.rls_verdict.specs.rls_catalog.specs.{State.name_order, declared.grant.Grant.Grant}
use Rattle.rls_grant.specs.Revoking.{stays}
use Rattle.rls_grant.proofs.GrantPlaces.{each_left, left_at}
use Rattle.rls_grant.proofs.revoking.keep_held.Goals as goal

pub loop-grant-init : goal.loop-grant-init
loop-grant-init c =
    let keep : Grant → Bool = stays (contains name_order c.args.holders.now) c.args.privilege in
    let all : c.into_iter-grant-iterator.result ≡ c.args.grants = search rules in
    (λ i. fold (left_at keep) (c.in_ok-left.ensures i) (all i)) ∙ each_left keep c.args.grants c.iter-grant-items.ensures.ordered
