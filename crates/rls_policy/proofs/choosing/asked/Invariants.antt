use Rattle.std.proofs.Common.{◌≡◌, ◌++◌, filter}
use Rattle.rls_verdict.specs.rls_catalog.specs.Verdict as spec
use Rattle.rls_policy.proofs.choosing.asked.Given as goal

-- what is left leads to the whole
abbrev pub invariant-loop-policy : goal.invariant-loop-policy
invariant-loop-policy l = l.kept.items ++ filter (spec.is_asked l.kind l.side) l.policy-iterator ≡ filter (spec.is_asked l.kind l.side) l.policies
