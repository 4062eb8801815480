use Rattle.std.proofs.Common.{◌≡◌}
use Rattle.std.specs.Prelude.{◌&&◌}
use Rattle.rls_grant.specs.{GrantedTo.is_among_first, Revoking.is_one}
use Rattle.rls_grant.proofs.revoking.takes_first.Given as goal

-- what passes among the first of all is what passes among the first of those that are left
abbrev pub invariant-loop-grant : goal.invariant-loop-grant
invariant-loop-grant l =
    (goal.iterator-loop-grant).can_next l.grant-iterator
    × (goal.iterator-loop-grant).is_finite l.grant-iterator
    × (is_among_first (λ grant. grant.option && is_one l.revoke l.grantor l.grantee grant) l.grantor.privilege l.grantee l.grant-iterator
    ≡ is_among_first (λ grant. grant.option && is_one l.revoke l.grantor l.grantee grant) l.grantor.privilege l.grantee l.fn.left)
