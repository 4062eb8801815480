use Rattle.std.proofs.Common.{subst}
use Rattle.rls_evaluation.specs.CachedSubplans.{IsAtPlace}
use Rattle.rls_evaluation.specs.Scoping.{env_of}
use Rattle.rls_evaluation.proofs.CachedSubplanLemmas.{first_told}
use Rattle.rls_evaluation.proofs.execution_state.ExecutionState.first.Goals as goal

pub returns-in-Some : goal.returns-in-Some
returns-in-Some c =
    first_told c.first.result c.args.place c.args.self.now c.in-Some.cached_subplan.now (env_of c.args.env.now)
    (subst (λ all. IsAtPlace all c.args.place c.in-Some.cached_subplan.now) c.deref.ensures.value c.in-Some.ensures) c.first.ensures
