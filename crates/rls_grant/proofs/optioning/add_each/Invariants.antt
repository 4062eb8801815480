use Rattle.std.proofs.Common.{◌≡◌, ◌++◌, drop}
use Rattle.rls_verdict.specs.rls_catalog.specs.Membership.{fresh}
use Rattle.rls_grant.specs.Seen.{IsSetOf}
use Rattle.rls_grant.proofs.optioning.add_each.Given as goal

-- what is left leads to the whole, and the set is that of the list
abbrev pub invariant-loop-name : goal.invariant-loop-name
invariant-loop-name l = record {
  leads : l.names.items ++ fresh l.names.items (drop l.name-index l.more) ≡ l.fn.names.items ++ fresh l.fn.names.items l.more;
  seen : IsSetOf l.seen l.names.items;
}
