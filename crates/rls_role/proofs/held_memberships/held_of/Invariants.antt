use Rattle.std.proofs.Common.{◌≡◌, ◌++◌, [], drop}
use Rattle.rls_source.specs.rls_catalog.specs.Membership.{fresh}
use Rattle.rls_role.specs.Granting.{held_in, held_reads}
use Rattle.rls_role.specs.Holdings.{members_in}
use Rattle.rls_role.proofs.held_memberships.held_of.Given as goal

-- what is left leads to the whole
abbrev pub invariant-loop-member : goal.invariant-loop-member
invariant-loop-member l =
    let now = l.fn.asker.state in
    let all = fresh [] l.members in
    let rest = fresh (members_in l.held) (drop l.member-index l.members) in
    record {
      state : l.asker.state ≡ now;
      held : l.held ++ held_in now rest ≡ held_in now all;
      noted : l.asker.reads ++ held_reads rest ≡ l.fn.asker.reads ++ held_reads all;
    }
