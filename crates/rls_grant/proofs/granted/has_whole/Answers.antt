use Rattle.std.proofs.Common.{ap, false, ◌∙◌}
use Rattle.rls_role.specs.shared_map.specs.Entries.{is_reached}
use Rattle.rls_role.specs.shared_map.specs.Lists.{items_from}
use Rattle.rls_grant.specs.GrantedTo.{is_among_first}
use Rattle.rls_verdict.specs.rls_catalog.specs.GrantKeys.{key_of, key_order}
use Rattle.rls_verdict.specs.rls_catalog.specs.Privileges.{is_whole}
use Rattle.rls_grant.proofs.SideBySide.{found_among}
use Rattle.rls_grant.proofs.granted.has_whole.Goals as goal

pub returns : goal.returns
returns c =
    c.is_whole_among_first.ensures
    ∙ ap (is_among_first is_whole c.args.privilege c.args.grantee.now) (c.iter_from-left.ensures.left ∙ ap (λ key. items_from (is_reached (key_order key) false) key_of c.args.grants.now) c.in_ok-first.ensures)
    ∙ found_among c.args.privilege c.args.grantee.now is_whole c.args.grants.now c.iter_from-left.ensures.ordered
