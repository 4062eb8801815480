use Rattle.rls_check.proofs.PieceLemmas.{onto}
use Rattle.rls_check.proofs.page_rows.push_both.Goals as goal

-- one piece behind another
pub returns : goal.returns
returns c = onto _ _ _ _ _ c.in_ok-push_tag.ensures (onto _ _ _ _ _ c.in_ok-push_data.ensures (onto _ _ _ _ _ c.in_ok-push_tag-2.ensures (onto _ _ _ _ _ c.in_ok-push_data-2.ensures c.in_ok-push_tag-3.ensures)))
