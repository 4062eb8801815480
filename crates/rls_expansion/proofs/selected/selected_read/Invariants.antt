use Rattle.std.proofs.Common.{◌≡◌, ◌++◌, drop}
use Rattle.rls_guard.specs.rls_catalog.specs.rls_expr.specs.Scopes.{in_scope}
use Rattle.rls_expansion.specs.Selected as spec
use Rattle.rls_expansion.proofs.selected.selected_read.Given as goal

-- the tables so far, and those of the policies that are left, are all
abbrev pub invariant-loop-policy : goal.invariant-loop-policy
invariant-loop-policy l =
    l.selected ++ spec.selected_read (in_scope l.scope.from) l.scope.found.now (drop l.policy-index l.policies) ≡ spec.selected_read (in_scope l.scope.from) l.scope.found.now l.policies
