use Rattle.rls_lint.specs.Contents.{IsSameTable}
use Rattle.rls_lint.proofs.ContentsLemmas.{none_differs, one_differs, one_more}
use Rattle.rls_lint.proofs.contents.are_same_tables.Goals as goal

pub returns-then-not-branch : goal.returns-then-not-branch
returns-then-not-branch c =
    one_differs (IsSameTable c.args.left.now c.args.right.now) c.args.tables.now c.loop-table.table-index c.table-item.result _ c.loop-table-test.true c.table-item.is c.in_ok-is_same_table.ensures c.if-not-branch.true

pub loop-table-preserved : goal.loop-table-preserved
loop-table-preserved c =
    one_more (IsSameTable c.args.left.now c.args.right.now) c.args.tables.now c.loop-table.table-index c.table-item.result _ c.loop-table-test.true c.table-item.is c.in_ok-is_same_table.ensures c.if-not-branch.false c.loop-table.invariant

pub returns : goal.returns
returns c = none_differs (IsSameTable c.args.left.now c.args.right.now) c.args.tables.now c.loop-table.table-index c.loop-table-test.false c.loop-table.invariant
