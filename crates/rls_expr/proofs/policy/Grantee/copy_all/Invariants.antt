use Rattle.std.proofs.Common.{◌≡◌, take}
use Rattle.rls_expr.proofs.policy.Grantee.copy_all.Given as goal

-- the first are copied
abbrev pub invariant-loop-grantee : goal.invariant-loop-grantee
invariant-loop-grantee l = l.copies.items ≡ take l.grantee-index l.grantees
