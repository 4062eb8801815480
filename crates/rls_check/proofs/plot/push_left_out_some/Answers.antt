use Rattle.rls_check.proofs.PieceLemmas.{onto}
use Rattle.rls_check.proofs.plot.push_left_out_some.Goals as goal

-- one piece behind another
pub returns : goal.returns
returns c = onto _ _ _ _ _ c.in_ok-push_tag.ensures (onto _ _ _ _ _ c.in_ok-push_number.ensures c.in_ok-push_tag-2.ensures)
