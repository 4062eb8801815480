use Rattle.std.proofs.Common.{ap, false, ◌∙◌}
use Rattle.rls_role.specs.shared_map.specs.Entries.{is_reached}
use Rattle.rls_role.specs.shared_map.specs.Lists.{items_from}
use Rattle.rls_grant.specs.GrantedTo.{is_among_first, is_grantable}
use Rattle.rls_verdict.specs.rls_catalog.specs.GrantKeys.{key_of, key_order}
use Rattle.rls_grant.proofs.SideBySide.{found_among}
use Rattle.rls_grant.proofs.granted.has_grantable.Goals as goal

pub returns : goal.returns
returns c =
    c.is_grantable_among_first.ensures
    ∙ ap (is_among_first is_grantable c.args.privilege c.args.grantee.now) (c.iter_from-given.ensures.left ∙ ap (λ key. items_from (is_reached (key_order key) false) key_of c.args.grants.now) c.in_ok-first.ensures)
    ∙ found_among c.args.privilege c.args.grantee.now is_grantable c.args.grants.now c.iter_from-given.ensures.ordered
