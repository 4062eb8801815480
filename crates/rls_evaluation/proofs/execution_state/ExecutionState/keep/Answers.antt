use Rattle.rls_evaluation.proofs.Telling.{on_ok_then}
use Rattle.rls_evaluation.proofs.execution_state.ExecutionState.keep.Goals as goal

pub returns-in-Some-clause-holds : goal.returns-in-Some-clause-holds
returns-in-Some-clause-holds c =
    on_ok_then c.keep_at.result _ _
    (λ kept. λ relations s answer was. record { ordered = was.ordered; kept = was.kept; cached = kept relations s c.args.self.now.read_set answer was.cached; indexed = was.indexed }) c.keep_at.ensures

pub returns-in-None-clause-holds : goal.returns-in-None-clause-holds
returns-in-None-clause-holds c = λ relations s answer was. was
