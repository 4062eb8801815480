use Rattle.std.proofs.Common.{ap, ◌∙◌}
use Rattle.rls_grant.specs.Placing.{with_option_there, with_put}
use Rattle.rls_grant.proofs.GrantPlaces.{grant_put}
use Rattle.rls_grant.proofs.placing.put_grant.Goals as goal

pub returns : goal.returns
returns c =
    c.in_ok-put.ensures.ok
    ∙ ap (with_put c.args.grants) (c.in_ok-grant.ensures ∙ ap (λ grants. with_option_there grants c.args.grant) c.in_order.ensures.list)
    ∙ grant_put c.args.grants c.args.grant c.in_order.ensures.ordered
