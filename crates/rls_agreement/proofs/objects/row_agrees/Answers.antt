use Rattle.std.proofs.Common.{◌∙◌, ap, filter}
use Rattle.rls_catalog.specs.State.{is_same_id}
use Rattle.rls_agreement.proofs.Deciding.{decides_along}
use Rattle.rls_agreement.proofs.objects.row_agrees.Goals as goal

pub returns-in-Ok : goal.returns-in-Ok
returns-in-Ok c =
    let those = filter (λ stored. is_same_id c.args.id stored.id) in
    decides_along _ _ _ _ _ (c.as_slice.ensures ∙ c.with_number-found.ensures ∙ ap those c.in_ok-rows.ensures.rows) (c.as_slice-in-Ok.ensures ∙ c.with_number-others.ensures ∙ ap those c.in-Ok.ensures.rows) c.are_same.ensures
