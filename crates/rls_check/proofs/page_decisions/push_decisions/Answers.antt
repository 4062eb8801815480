use Rattle.rls_check.proofs.PieceLemmas.{each}
use Rattle.rls_check.proofs.page_decisions.push_decisions.Goals as goal

-- what is written of each
pub returns : goal.returns
returns c = each _ _ _ _ c.in_ok-push_each_decision.ensures
