use Rattle.rls_lint.proofs.ContentsLemmas.{table_decides}
use Rattle.rls_lint.proofs.contents.is_same_table.Goals as goal

pub returns : goal.returns
returns c =
    table_decides c.args.left.now c.args.right.now c.args.table.now _ _ _ _ _ _ _ c.in_ok-definition.ensures c.in_ok-grants.ensures c.in_ok-policies.ensures c.in_ok-rows.ensures c.are_both-shared.ensures c.are_both-defined.ensures c.are_both-same.ensures
