use Rattle.rls_check.proofs.PieceLemmas.{each}
use Rattle.rls_check.proofs.plot.Plot.push_arrows.Goals as goal

-- what is written of each
pub returns : goal.returns
returns c = each _ _ _ _ c.in_ok-push_each_arrow.ensures
