use Rattle.std.proofs.Common.{◌≡◌, ap, sym, subst, ◌∙◌, Some, IfOk}
use Rattle.std.specs.BTreeMap.{is_at}
use Rattle.rls_role.specs.shared_map.specs.Lists.{item_at}
use Rattle.rls_verdict.specs.rls_catalog.specs.{GrantKeys.key_of, GrantKeys.key_order}
use Rattle.rls_grant.specs.Placing.{optioned_or, same_there}
use Rattle.rls_grant.proofs.placing.with_option_there.Goals as goal

pub returns-in-Some : goal.returns-in-Some
returns-in-Some c =
    let found : same_there c.args.grants.now c.args.grant ≡ Some c.in-Some.other.now =
    ap (λ key. item_at (is_at (key_order key)) key_of c.args.grants.now) (sym c.in_ok-key.ensures) ∙ sym c.in-Some.ensures.item in
    subst (λ grant. IfOk c.with_option.result (λ both. both ≡ grant)) (sym (ap (λ there. optioned_or there c.args.grant) found)) c.with_option.ensures
