use Rattle.std.proofs.Common.{ap, ◌∙◌}
use Rattle.std.specs.BTreeMap.{is_at}
use Rattle.shared_map.specs.Lists.{without_item}
use Rattle.rls_catalog.specs.State.{name_order}
use Rattle.rls_catalog.proofs.PolicyListLaws.{taken_away}
use Rattle.rls_catalog.proofs.policies.without_policy.Goals as goal

pub returns : goal.returns
returns c =
    c.in_ok-remove.ensures.ok
    ∙ ap (without_item (is_at (name_order c.args.name.now)) (λ p. p.name)) (c.in_ok-left.ensures ∙ c.in_order.ensures.list)
    ∙ taken_away c.args.policies.now c.args.name.now c.in_order.ensures.ordered
