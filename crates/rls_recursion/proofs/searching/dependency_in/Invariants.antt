use Rattle.std.proofs.Common.{◌≡◌, drop}
use Rattle.rls_recursion.specs.Searching as spec
use Rattle.rls_recursion.proofs.searching.dependency_in.Given as goal

-- what is left has the dependency
abbrev pub invariant-loop-dependency : goal.invariant-loop-dependency
invariant-loop-dependency l = spec.dependency_in (drop l.dependency-index l.dependencies) l.table ≡ spec.dependency_in l.dependencies l.table
