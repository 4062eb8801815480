use Rattle.std.proofs.Common.{◌≡◌, ◌++◌, drop}
use Rattle.rls_source.specs.rls_catalog.specs.Membership.{walk_reads}
use Rattle.rls_role.specs.Holdings.{managed_by}
use Rattle.rls_role.proofs.managing.managed.Given as goal

-- what is left leads to the whole
abbrev pub invariant-loop-member : goal.invariant-loop-member
invariant-loop-member l =
    let now = l.fn.asker.state in
    record {
      state : l.asker.state ≡ now;
      names : l.names ++ managed_by now (drop l.member-index l.members) ≡ managed_by now l.members;
      noted : l.asker.reads ++ walk_reads (drop l.member-index l.members) ≡ l.fn.asker.reads ++ walk_reads l.members;
    }
