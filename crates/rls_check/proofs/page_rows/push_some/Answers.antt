use Rattle.rls_check.proofs.PieceLemmas.{onto}
use Rattle.rls_check.proofs.page_rows.push_some.Goals as goal

-- one piece behind another
pub returns : goal.returns
returns c = onto _ _ _ _ _ c.in_ok-push_head.ensures (onto _ _ _ _ _ c.in_ok-push_first_rows.ensures (onto _ _ _ _ _ c.in_ok-push_tag.ensures c.in_ok-push_left.ensures))
