use Rattle.std.proofs.Common.{◌≡◌, length}
use Rattle.std.specs.List.{list_any}
use Rattle.rls_verdict.specs.rls_expr.specs.declared.policy.Grantee.{Grantee}
use Rattle.rls_grant.specs.GrantedTo.{has_whole}
use Rattle.rls_grant.proofs.holding.is_granted_to_some.Given as goal

-- some role has such a grant if one of those that are left has
abbrev pub invariant-loop-roles : goal.invariant-loop-roles
invariant-loop-roles l = list_any (λ role. has_whole l.privilege (Grantee.Role role) l.grants) l.roles ≡ list_any (λ role. has_whole l.privilege (Grantee.Role role) l.grants) l.fn.roles

abbrev pub decreases-loop-roles : goal.decreases-loop-roles
decreases-loop-roles l = length l.roles
