use Rattle.std.proofs.Common.{◌≡◌, ◌-◌, ◌+◌, ◌++◌, ◌^◌, ℕ, [], ◌∷◌, take}
use Rattle.rls_source.specs.rls_catalog.specs.Membership.{walk, walk_reads}
use Rattle.rls_source.specs.rls_catalog.specs.Paths.{inheriting}
use Rattle.rls_role.specs.Holdings.{with_held}
use Rattle.rls_role.specs.Steps.{takes}
use Rattle.rls_role.proofs.walking.reached.Given as goal

-- the same state is asked, the walk leads where it did, and the first were visited
abbrev pub invariant-loop-name : goal.invariant-loop-name
invariant-loop-name l =
    let now = l.fn.asker.state in
    let marked = inheriting (takes l.step) (with_held l.held now) in
    record {
      state : l.asker.state ≡ now;
      leads : (n : ℕ) → walk n marked l.names l.next ≡ walk (n + l.next) marked (l.fn.role ∷ []) 0;
      reads : l.asker.reads ≡ l.fn.asker.reads ++ walk_reads (take l.next l.names);
    }

abbrev pub decreases-loop-name : goal.decreases-loop-name
decreases-loop-name l = 2 ^ 64 - l.next
