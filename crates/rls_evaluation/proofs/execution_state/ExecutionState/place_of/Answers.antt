use Rattle.rls_evaluation.proofs.CachedSubplanLemmas.{at_that_place}
use Rattle.rls_evaluation.proofs.execution_state.ExecutionState.place_of.Goals as goal

pub returns-clause-found : goal.returns-clause-found
returns-clause-found c = at_that_place c.kept_at.result c.in_ok-place.place _ c.kept_at.ensures c.in_ok-place.ensures.found

pub returns-clause-holds : goal.returns-clause-holds
returns-clause-holds c = λ relations user s was. record { ordered = was.ordered; kept = was.kept; cached = c.in_ok-place.ensures.cached relations user s c.args.self.now.read_set (c.rests_at.ensures relations user s c.args.self.now.read_set was.cached); indexed = was.indexed }
