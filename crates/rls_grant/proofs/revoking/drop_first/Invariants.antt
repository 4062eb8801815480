use Rattle.std.proofs.Common.{◌≡◌}
use Rattle.std.specs.Prelude.{not}
use Rattle.rls_grant.specs.{GrantedTo.first_to, Placing.without_each, Revoking.is_one}
use Rattle.rls_grant.proofs.revoking.drop_first.Given as goal

-- what is left leads to the whole
abbrev pub invariant-loop-grant : goal.invariant-loop-grant
invariant-loop-grant l =
    (goal.iterator-loop-grant).can_next l.grant-iterator
    × (goal.iterator-loop-grant).is_finite l.grant-iterator
    × (without_each (λ grant. not (is_one l.revoke l.grantor l.grantee grant)) l.rest (first_to l.grantor.privilege l.grantee l.grant-iterator)
    ≡ without_each (λ grant. not (is_one l.revoke l.grantor l.grantee grant)) l.fn.grants (first_to l.grantor.privilege l.grantee l.fn.left))
