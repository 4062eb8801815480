use Rattle.std.proofs.Common.{◌≡◌, ◌++◌, drop}
use Rattle.rls_lint.specs.PolicyMistakes.{roles_to}
use Rattle.rls_lint.proofs.policy_mistakes.roles_to.Given as goal

-- the roles so far, and those that are left, are all
abbrev pub invariant-loop-role : goal.invariant-loop-role
invariant-loop-role l = l.to ++ roles_to (drop l.role-index l.roles) l.policy ≡ roles_to l.roles l.policy
