use Rattle.rls_check.proofs.PieceLemmas.{onto}
use Rattle.rls_check.proofs.plot.push_picture.Goals as goal

-- one piece behind another
pub returns : goal.returns
returns c = onto _ _ _ _ _ c.in_ok-push_others.ensures (onto _ _ _ _ _ c.in_ok-push_sized.ensures (onto _ _ _ _ _ c.in_ok-push_plotted.ensures c.in_ok-push_tag.ensures))
