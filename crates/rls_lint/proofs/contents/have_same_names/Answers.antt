use Rattle.rls_lint.specs.Contents.{AreSameNames}
use Rattle.rls_lint.proofs.ContentsLemmas.{both_decide}
use Rattle.rls_lint.proofs.contents.have_same_names.Goals as goal

pub returns : goal.returns
returns c =
    let left = c.args.left.now in
    let right = c.args.right.now in
    both_decide (AreSameNames left.roles right.roles) (AreSameNames left.tables right.tables) _ _ _ c.in_ok-roles.ensures c.in_ok-tables.ensures c.are_both-same.ensures
