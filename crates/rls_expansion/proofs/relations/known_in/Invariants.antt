use Rattle.std.proofs.Common.{◌≡◌, ◌++◌, drop}
use Rattle.rls_expansion.specs.Relations.{known_in}
use Rattle.rls_expansion.proofs.relations.known_in.Given as goal

-- the tables so far, and those of the dependencies that are left, are all
abbrev pub invariant-loop-dependency : goal.invariant-loop-dependency
invariant-loop-dependency l = l.known ++ known_in (drop l.dependency-index l.dependencies) ≡ known_in l.dependencies
