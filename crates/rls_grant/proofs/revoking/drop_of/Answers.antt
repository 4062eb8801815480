use Rattle.std.proofs.Common.{ap, false, ◌∙◌}
use Rattle.std.specs.Prelude.{IfOk, List, not}
use Rattle.std.proofs.Common.{◌≡◌, subst}
use Rattle.rls_role.specs.shared_map.specs.Entries.{is_reached}
use Rattle.rls_role.specs.shared_map.specs.Lists.{items_from}
use Rattle.rls_verdict.specs.rls_catalog.specs.{GrantKeys.key_of, GrantKeys.key_order, declared.grant.Grant.Grant}
use Rattle.rls_grant.specs.{GrantedTo.first_to, Placing.without_each, Revoking.is_one}
use Rattle.rls_grant.proofs.RevokedLemmas.{first_left, others_stay}
use Rattle.rls_grant.proofs.revoking.drop_of.Goals as goal

pub returns : goal.returns
returns c =
    let asked = c.args.revoke.now in
    let grantor = c.args.grantor.now in
    let grantee = c.args.grantee.now in
    let keep = λ (grant : Grant). not (is_one asked grantor grantee grant) in
    subst (λ (left : List Grant). IfOk c.drop_first.result (λ rest. rest ≡ left))
    ((λ i. without_each keep (c.in_ok-rest.ensures i) (first_to grantor.privilege grantee ((c.iter_from-left.ensures.left ∙ ap (λ key. items_from (is_reached (key_order key) false) key_of c.args.grants) c.in_ok-first.ensures) i)))
    ∙ first_left grantor.privilege grantee keep (others_stay asked grantor grantee) c.args.grants c.iter_from-left.ensures.ordered) c.drop_first.ensures
