use Rattle.std.proofs.Common.{◌∙◌}
use Rattle.rls_lint.proofs.ContentsLemmas.{all_decide}
use Rattle.rls_lint.proofs.contents.are_all_same.Goals as goal

pub returns : goal.returns
returns c =
    all_decide c.args.left.now c.args.right.now c.as_slice.result.now c.as_slice-2.result.now _ _ _ _ _ (c.as_slice.ensures ∙ c.in_ok-roles.ensures) (c.as_slice-2.ensures ∙ c.in_ok-tables.ensures) c.in_ok-same_roles.ensures c.in_ok-same_tables.ensures c.are_both-same.ensures
