use Rattle.std.proofs.Common.{◌≡◌}
use Rattle.rls_grant.specs.GrantedTo.{is_among_first, is_grantable}
use Rattle.rls_grant.proofs.granted.is_grantable_among_first.Given as goal

-- what passes among the first of all is what passes among the first of those that are left
abbrev pub invariant-loop-grant : goal.invariant-loop-grant
invariant-loop-grant l =
    (goal.iterator-loop-grant).can_next l.grant-iterator
    × (goal.iterator-loop-grant).is_finite l.grant-iterator
    × (is_among_first is_grantable l.privilege l.grantee l.grant-iterator ≡ is_among_first is_grantable l.privilege l.grantee l.fn.left)
