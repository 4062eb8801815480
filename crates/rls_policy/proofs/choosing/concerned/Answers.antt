use Rattle.std.proofs.Common.{rules, ap, ◌∙◌, filter}
use Rattle.std.specs.List.{list_any}
use Rattle.std.proofs.lemmas.Fn.{filter_same}
use Rattle.rls_verdict.specs.rls_catalog.specs.Privileges.{includes}
use Rattle.rls_policy.proofs.choosing.concerned.Goals as goal

pub returns : goal.returns
returns c =
    c.from_vec.ensures ∙ filter_same _ (λ policy. list_any (includes c.args.effective_roles.now.superuser c.args.effective_roles.now.names) policy.to) _ (λ x b f' k. search rules) _ _ c.retain.ensures.filtered
    ∙ ap (filter (λ policy. list_any (includes c.args.effective_roles.now.superuser c.args.effective_roles.now.names) policy.to)) c.into_vec-kept.ensures
