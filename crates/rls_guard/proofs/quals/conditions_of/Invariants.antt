use Rattle.std.proofs.Common.{◌≡◌, ◌++◌, drop}
use Rattle.rls_guard.specs.SecurityQuals as spec
use Rattle.rls_evaluation.specs.rls_catalog.specs.rls_expr.specs.Scopes.{in_scope}
use Rattle.rls_guard.proofs.quals.conditions_of.Given as goal

-- the conditions so far, and those of the policies that are left, are the conditions of all
abbrev pub invariant-loop-policy : goal.invariant-loop-policy
invariant-loop-policy l = l.conditions ++ spec.conditions_of l.kind l.side (in_scope l.scope.from) l.scope.found.now (drop l.policy-index l.policies) ≡ spec.conditions_of l.kind l.side (in_scope l.scope.from) l.scope.found.now l.policies
