use Rattle.rls_lint.specs.Contents.{IsSameRole}
use Rattle.rls_lint.proofs.ContentsLemmas.{none_differs, one_differs, one_more}
use Rattle.rls_lint.proofs.contents.are_same_roles.Goals as goal

pub returns-then-not-branch : goal.returns-then-not-branch
returns-then-not-branch c =
    one_differs (IsSameRole c.args.left.now c.args.right.now) c.args.roles.now c.loop-role.role-index c.role-item.result _ c.loop-role-test.true c.role-item.is c.in_ok-is_same_role.ensures c.if-not-branch.true

pub loop-role-preserved : goal.loop-role-preserved
loop-role-preserved c =
    one_more (IsSameRole c.args.left.now c.args.right.now) c.args.roles.now c.loop-role.role-index c.role-item.result _ c.loop-role-test.true c.role-item.is c.in_ok-is_same_role.ensures c.if-not-branch.false c.loop-role.invariant

pub returns : goal.returns
returns c = none_differs (IsSameRole c.args.left.now c.args.right.now) c.args.roles.now c.loop-role.role-index c.loop-role-test.false c.loop-role.invariant
