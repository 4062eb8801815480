use Rattle.rls_check.proofs.PieceLemmas.{onto}
use Rattle.rls_check.proofs.walking.Turn.push_came.Goals as goal

-- one piece behind another
pub returns : goal.returns
returns c = onto _ _ _ _ _ c.in_ok-push_color.ensures (onto _ _ _ _ _ c.in_ok-push_came_text.ensures c.in_ok-push_tag.ensures)
