use Rattle.rls_check.proofs.PieceLemmas.{onto}
use Rattle.rls_check.proofs.plot.push_bar.Goals as goal

-- one piece behind another
pub returns : goal.returns
returns c = onto _ _ _ _ _ c.in_ok-push_tag.ensures (onto _ _ _ _ _ c.in_ok-push_number.ensures (onto _ _ _ _ _ c.in_ok-push_tag-2.ensures (onto _ _ _ _ _ c.in_ok-push_number-2.ensures (onto _ _ _ _ _ c.in_ok-push_tag-3.ensures (onto _ _ _ _ _ c.in_ok-push_width.ensures (onto _ _ _ _ _ c.in_ok-push_tag-4.ensures (onto _ _ _ _ _ c.in_ok-push_mark.ensures (onto _ _ _ _ _ c.in_ok-push_tag-5.ensures (onto _ _ _ _ _ c.in_ok-push_number-3.ensures (onto _ _ _ _ _ c.in_ok-push_tag-6.ensures (onto _ _ _ _ _ c.in_ok-push_login.ensures c.in_ok-push_tag-7.ensures)))))))))))
