use Rattle.rls_explain.proofs.DecidedLemmas.{decisions_mean}
use Rattle.rls_explain.proofs.PartLemmas.{parts_are_resolved}
use Rattle.rls_explain.proofs.ReasonLemmas.{details_say, exempt_by_reason, verdict_is_told}
use Rattle.rls_explain.proofs.TruthLemmas.{truths_decide}
use Rattle.rls_explain.proofs.laws.explanations_mean.Goals as goal

pub returns-clause-decisions : goal.returns-clause-decisions
returns-clause-decisions c = decisions_mean

pub returns-clause-truths : goal.returns-clause-truths
returns-clause-truths c = truths_decide

pub returns-clause-reasons : goal.returns-clause-reasons
returns-clause-reasons c = exempt_by_reason

pub returns-clause-details : goal.returns-clause-details
returns-clause-details c = details_say

pub returns-clause-verdict : goal.returns-clause-verdict
returns-clause-verdict c = verdict_is_told

pub returns-clause-parts : goal.returns-clause-parts
returns-clause-parts c = parts_are_resolved
