use Rattle.std.proofs.Common.{ap, false, ◌∙◌}
use Rattle.std.specs.Prelude.{◌&&◌}
use Rattle.rls_role.specs.shared_map.specs.Entries.{is_reached}
use Rattle.rls_role.specs.shared_map.specs.Lists.{items_from}
use Rattle.rls_verdict.specs.rls_catalog.specs.{GrantKeys.key_of, GrantKeys.key_order, declared.grant.Grant.Grant}
use Rattle.rls_grant.specs.{GrantedTo.is_among_first, Revoking.is_one}
use Rattle.rls_grant.proofs.SideBySide.{found_among}
use Rattle.rls_grant.proofs.revoking.takes_option_of.Goals as goal

pub returns : goal.returns
returns c =
    let asked = c.args.revoke.now in
    let grantor = c.args.grantor.now in
    let grantee = c.args.grantee.now in
    let test = λ (grant : Grant). grant.option && is_one asked grantor grantee grant in
    c.takes_first.ensures
    ∙ ap (is_among_first test grantor.privilege grantee) (c.iter_from-left.ensures.left ∙ ap (λ key. items_from (is_reached (key_order key) false) key_of c.args.grants.now) c.in_ok-first.ensures)
    ∙ found_among grantor.privilege grantee test c.args.grants.now c.iter_from-left.ensures.ordered
