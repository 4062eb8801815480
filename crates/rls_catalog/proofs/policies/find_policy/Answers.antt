use Rattle.std.proofs.Common.{ap, Some, ◌∙◌}
use Rattle.rls_catalog.proofs.PolicyListLaws.{named_at}
use Rattle.rls_catalog.proofs.policies.find_policy.Goals as goal

pub returns-in-Some-clause-found : goal.returns-in-Some-clause-found
returns-in-Some-clause-found c = ap Some c.get-in-Some.ensures ∙ c.in-Some.ensures.item ∙ named_at c.args.name.now c.args.policies.now

pub returns-in-None-clause-found : goal.returns-in-None-clause-found
returns-in-None-clause-found c = c.in-None.ensures.item ∙ named_at c.args.name.now c.args.policies.now
