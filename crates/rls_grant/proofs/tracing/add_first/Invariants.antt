use Rattle.std.proofs.Common.{◌≡◌, ◌++◌}
use Rattle.rls_verdict.specs.rls_catalog.specs.Membership.{fresh}
use Rattle.rls_grant.specs.Origins.{origins_first}
use Rattle.rls_grant.specs.Seen.{IsSetOf}
use Rattle.rls_grant.proofs.tracing.add_first.Given as goal

-- what is left leads to the whole, and the set is that of the list
abbrev pub invariant-loop-grant : goal.invariant-loop-grant
invariant-loop-grant l =
    (goal.iterator-loop-grant).can_next l.grant-iterator
    × (goal.iterator-loop-grant).is_finite l.grant-iterator
    × (l.names.items ++ fresh l.names.items (origins_first l.privilege l.grantee l.grant-iterator) ≡ l.fn.names.items ++ fresh l.fn.names.items (origins_first l.privilege l.grantee l.fn.left))
    × IsSetOf l.seen l.names.items
