use Rattle.std.proofs.Common.{◌≡◌, ◌-◌, ◌^◌, take, true, false}
use Rattle.std.specs.Option.{option_copied}
use Rattle.rls_value.specs.Names.{one_of}
use Rattle.rls_grant.specs.Considered.{considered}
use Rattle.rls_grant.specs.Seen.{IsSetOf}
use Rattle.rls_grant.proofs.OriginLaws.{Leads, GoesOn}
use Rattle.rls_grant.proofs.tracing.is_traced.Given as goal

-- where one of the names holds the option, so does the role, which is one of them; those that the first ones have it from are there,
-- and the owner isn't among these; and the set is that of the list
abbrev pub invariant-loop-name : goal.invariant-loop-name
invariant-loop-name l =
    let these = considered (option_copied l.without) l.grants in
    record {
      leads : Leads l.owner these l.privilege l.role l.names.items;
      on : GoesOn these l.privilege (take l.next l.names.items) l.names.items;
      apart : one_of (take l.next l.names.items) l.owner ≡ false;
      itself : one_of l.names.items l.role ≡ true;
      seen : IsSetOf l.seen l.names.items;
    }

abbrev pub decreases-loop-name : goal.decreases-loop-name
decreases-loop-name l = 2 ^ 64 - l.next
