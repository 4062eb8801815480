use Rattle.rls_lint.proofs.ContentsLemmas.{contents_decide, other_names}
use Rattle.rls_lint.proofs.contents.have_same_contents.Goals as goal

-- the names differ
pub returns-then-not-branch : goal.returns-then-not-branch
returns-then-not-branch c =
    other_names c.args.left.now c.args.right.now c.args.left_named.now c.args.right_named.now _ c.requires.left c.requires.right c.in_ok-have_same_names.ensures c.if-not-branch.true

-- or each of the names decides
pub returns : goal.returns
returns c =
    contents_decide c.args.left.now c.args.right.now c.args.left_named.now c.args.right_named.now _ _ c.requires.left c.requires.right c.in_ok-have_same_names.ensures c.if-not-branch.false c.in_ok-same.ensures
