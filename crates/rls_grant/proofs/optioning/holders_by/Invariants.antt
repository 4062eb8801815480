use Rattle.std.proofs.Common.{◌≡◌, ◌-◌, ◌^◌, List, take, true}
use Rattle.rls_value.specs.Names.{one_of}
use Rattle.rls_value.specs.declared.verb.Privilege.{Privilege}
use Rattle.rls_verdict.specs.rls_catalog.specs.declared.grant.Grant.{Grant}
use Rattle.rls_grant.specs.Seen.{IsSetOf}
use Rattle.rls_grant.specs.Handed.{HandsOn}
use Rattle.rls_grant.proofs.GrantOptions.{Sound, Closed}
use Rattle.rls_grant.proofs.optioning.holders_by.Given as goal

-- by whatever grants the index is of: each holds the option, and those to whom the first granted it are there; so is the
-- owner, and the set is that of the list
abbrev pub invariant-loop-holder : goal.invariant-loop-holder
invariant-loop-holder l = record {
  sound : (grants : List Grant) (privilege : Privilege) → HandsOn l.index.entries grants privilege → Sound l.owner grants privilege l.names.items;
  closed : (grants : List Grant) (privilege : Privilege) → HandsOn l.index.entries grants privilege → Closed grants privilege (take l.next l.names.items) l.names.items;
  owner : one_of l.names.items l.owner ≡ true;
  seen : IsSetOf l.seen l.names.items;
}

abbrev pub decreases-loop-holder : goal.decreases-loop-holder
decreases-loop-holder l = 2 ^ 64 - l.next
