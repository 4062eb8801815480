use Rattle.rls_check.proofs.PieceLemmas.{onto}
use Rattle.rls_check.proofs.page_decisions.push_asked.Goals as goal

-- one piece behind another
pub returns : goal.returns
returns c = onto _ _ _ _ _ c.in_ok-push_tag.ensures (onto _ _ _ _ _ c.in_ok-push_said.ensures (onto _ _ _ _ _ c.in_ok-push_tag-2.ensures (onto _ _ _ _ _ c.in_ok-push_slot.ensures (onto _ _ _ _ _ c.in_ok-push_tag-3.ensures c.in_ok-push_parts.ensures))))
