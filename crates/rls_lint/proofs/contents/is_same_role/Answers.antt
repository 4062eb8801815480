use Rattle.rls_lint.proofs.ContentsLemmas.{role_decides}
use Rattle.rls_lint.proofs.contents.is_same_role.Goals as goal

pub returns : goal.returns
returns c = role_decides c.args.left.now c.args.right.now c.args.role.now _ _ _ c.in_ok-attributes.ensures c.in_ok-members.ensures c.are_both-same.ensures
