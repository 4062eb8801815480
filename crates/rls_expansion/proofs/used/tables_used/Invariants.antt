use Rattle.std.proofs.Common.{◌≡◌, ◌++◌}
use Rattle.rls_expansion.specs.Used as spec
use Rattle.rls_expansion.proofs.used.tables_used.Given as goal

-- the tables so far, and those of the policies that are left, are all
abbrev pub invariant-loop-policy : goal.invariant-loop-policy
invariant-loop-policy l = l.tables ++ spec.tables_used l.effective_roles.superuser l.effective_roles.names l.asks l.policy-iterator ≡ spec.tables_used l.effective_roles.superuser l.effective_roles.names l.asks l.policies
