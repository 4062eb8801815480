use Rattle.rls_check.proofs.PieceLemmas.{onto}
use Rattle.rls_check.proofs.plot.Plot.push.Goals as goal

-- one piece behind another
pub returns : goal.returns
returns c = onto _ _ _ _ _ c.in_ok-push_bars.ensures c.in_ok-push_arrows.ensures
