use Rattle.rls_check.proofs.PieceLemmas.{onto}
use Rattle.rls_check.proofs.page_head.push_counts.Goals as goal

-- one piece behind another
pub returns : goal.returns
returns c = onto _ _ _ _ _ c.in_ok-push_tag.ensures (onto _ _ _ _ _ c.in_ok-push_fact.ensures (onto _ _ _ _ _ c.in_ok-push_fact-2.ensures (onto _ _ _ _ _ c.in_ok-push_fact-3.ensures (onto _ _ _ _ _ c.in_ok-push_fact-4.ensures (onto _ _ _ _ _ c.in_ok-push_fact-5.ensures (onto _ _ _ _ _ c.in_ok-push_fact-6.ensures c.in_ok-push_tag-2.ensures))))))
