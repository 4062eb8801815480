use Rattle.std.proofs.Common.{◌≡◌, ◌++◌, drop}
use Rattle.rls_expansion.specs.Selected as spec
use Rattle.rls_expansion.proofs.selected.subqueries_in.Given as goal

-- the tables so far, and those of the dependencies that are left, are all
abbrev pub invariant-loop-dependency : goal.invariant-loop-dependency
invariant-loop-dependency l = l.subqueries ++ spec.subqueries_in l.found (drop l.dependency-index l.dependencies) ≡ spec.subqueries_in l.found l.dependencies
