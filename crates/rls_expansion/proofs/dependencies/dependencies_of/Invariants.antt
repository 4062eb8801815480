use Rattle.std.proofs.Common.{◌≡◌, ◌-◌, ◌+◌, ◌^◌, ◌++◌, ℕ, []}
use Rattle.rls_recursion.specs.rls_catalog.specs.Membership.{fresh}
use Rattle.rls_expansion.specs.Enough.{collect}
use Rattle.rls_expansion.specs.Dependencies as spec
use Rattle.rls_expansion.proofs.Telling.{Leads}
use Rattle.rls_expansion.proofs.dependencies.dependencies_of.Given as goal

-- the same state is asked, and what is left to visit leads to the whole, for each number of visits
abbrev pub invariant-loop-name : goal.invariant-loop-name
invariant-loop-name l =
    let now = l.fn.asker.state in
    record {
      state : l.asker.state ≡ now;
      leads : (n : ℕ) → Leads (collect (spec.dependency_of l.role_privileges) (λ dependency. dependency.subquery_tables) (n + l.next) (fresh [] l.fn.tables) 0) (collect (spec.dependency_of l.role_privileges) (λ dependency. dependency.subquery_tables) n l.names.items l.next) (λ rest. l.dependencies ++ rest) now l.fn.asker.reads l.asker.reads;
    }

abbrev pub decreases-loop-name : goal.decreases-loop-name
decreases-loop-name l = 2 ^ 64 - l.next
