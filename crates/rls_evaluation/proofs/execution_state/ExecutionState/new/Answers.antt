use Rattle.rls_evaluation.proofs.Absorbing.{holds_new}
use Rattle.rls_evaluation.proofs.execution_state.ExecutionState.new.Goals as goal

pub returns-clause-holds : goal.returns-clause-holds
returns-clause-holds c = λ relations user s. holds_new relations user s _ c.new.ensures c.new-2.ensures.empty c.new-3.ensures.items c.new-4.ensures.items
