use Rattle.rls_check.proofs.PieceLemmas.{onto}
use Rattle.rls_check.proofs.page_rows.push_row.Goals as goal

-- one piece behind another
pub returns : goal.returns
returns c = onto _ _ _ _ _ c.in_ok-push_outcome.ensures (onto _ _ _ _ _ c.in_ok-push_word.ensures (onto _ _ _ _ _ c.in_ok-push_tag.ensures (onto _ _ _ _ _ c.in_ok-push_id.ensures (onto _ _ _ _ _ c.in_ok-push_tag-2.ensures (onto _ _ _ _ _ c.in_ok-push_row_cells.ensures (onto _ _ _ _ _ c.in_ok-push_tag-3.ensures (onto _ _ _ _ _ c.in_ok-push_why.ensures c.in_ok-push_tag-4.ensures)))))))
