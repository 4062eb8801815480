use Rattle.rls_check.proofs.WalkedLemmas.{effects_told, each_agrees}
use Rattle.rls_check.proofs.walked.walks_tell_the_run.Goals as goal

pub returns-clause-effects : goal.returns-clause-effects
returns-clause-effects c = effects_told

pub returns-clause-agree : goal.returns-clause-agree
returns-clause-agree c = each_agrees
