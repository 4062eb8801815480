use Rattle.rls_check.specs.Plots.{drawn_at}
use Rattle.rls_check.proofs.PieceLemmas.{onto}
use Rattle.rls_check.proofs.plot.push_drawn_at.Goals as goal

-- one piece behind another
pub returns : goal.returns
unfolding drawn_at
returns c = onto _ _ _ _ _ c.in_ok-push_link.ensures c.in_ok-push_bar.ensures
