use Rattle.rls_check.proofs.PieceLemmas.{onto}
use Rattle.rls_check.proofs.walking.Turn.push_folded.Goals as goal

-- one piece behind another
pub returns : goal.returns
returns c = onto _ _ _ _ _ c.in_ok-push_summary.ensures (onto _ _ _ _ _ c.in_ok-push_rows_if.ensures c.in_ok-push_tag.ensures)
