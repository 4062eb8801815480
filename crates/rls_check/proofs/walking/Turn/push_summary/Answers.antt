use Rattle.rls_check.proofs.PieceLemmas.{onto}
use Rattle.rls_check.proofs.walking.Turn.push_summary.Goals as goal

-- one piece behind another
pub returns : goal.returns
returns c = onto _ _ _ _ _ c.in_ok-push_tag.ensures (onto _ _ _ _ _ c.in_ok-push_named.ensures (onto _ _ _ _ _ c.in_ok-push_tag-2.ensures (onto _ _ _ _ _ c.in_ok-push_printed.ensures (onto _ _ _ _ _ c.in_ok-push_tag-3.ensures (onto _ _ _ _ _ c.in_ok-push_good_chips.ensures (onto _ _ _ _ _ c.in_ok-push_other_chips.ensures (onto _ _ _ _ _ c.in_ok-push_tag-4.ensures (onto _ _ _ _ _ c.in_ok-push_came.ensures c.in_ok-push_tag-5.ensures))))))))
