use Rattle.std.proofs.Common.{rules, ◌∙◌, ap, filter}
use Rattle.std.proofs.lemmas.Fn.{filter_same}
use Rattle.rls_catalog.specs.State.{is_same_id}
use Rattle.rls_agreement.proofs.objects.with_number.Goals as goal

pub returns : goal.returns
returns c =
    let kept = filter_same _ (λ stored. is_same_id c.args.id stored.id) _ (λ x b f' k. search rules) _ _ c.retain.ensures.filtered in
    c.from_vec.ensures ∙ kept ∙ ap (filter (λ stored. is_same_id c.args.id stored.id)) c.into_vec-rows.ensures
