use Rattle.std.proofs.Common.{◌≡◌, ◌+◌, ◌*◌, drop, ℕ}
use Rattle.rls_recursion.specs.Chains.{chain_of}
use Rattle.rls_recursion.specs.Searching as spec
use Rattle.rls_recursion.specs.Searching.{IsEnough, left, tables_in}
use Rattle.rls_recursion.proofs.searching.+visit.Given as goal

-- the tables that aren't on the chain
abbrev pub decreases-visit : goal.decreases-visit
decreases-visit l = 3 * left (tables_in l.dependencies.now) (chain_of l.chain.now) + 1

abbrev pub decreases-visit_own : goal.decreases-visit_own
decreases-visit_own l = 3 * left (tables_in l.dependencies.now) (chain_of l.chain.now)

abbrev pub decreases-visit_all : goal.decreases-visit_all
decreases-visit_all l = 3 * left (tables_in l.dependencies.now) (chain_of l.chain.now) + 2

-- what is left leads to the whole
abbrev pub invariant-visit_all-loop-table : goal.invariant-visit_all-loop-table
invariant-visit_all-loop-table l = (n : ℕ) → IsEnough l.dependencies (chain_of l.chain) n
    → spec.visit_all (spec.visit n l.dependencies (chain_of l.chain)) l.fn.progress l.tables ≡ spec.visit_all (spec.visit n l.dependencies (chain_of l.chain)) l.progress (drop l.table-index l.tables)
