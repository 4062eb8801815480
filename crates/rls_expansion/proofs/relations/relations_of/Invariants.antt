use Rattle.std.proofs.Common.{◌≡◌, ◌++◌, drop}
use Rattle.rls_expansion.specs.Relations.{relations_of}
use Rattle.rls_expansion.proofs.relations.relations_of.Given as goal

-- the relations so far, and those of the tables that are left, are all
abbrev pub invariant-loop-name : goal.invariant-loop-name
invariant-loop-name l = l.relations ++ relations_of l.found l.dependencies (drop l.name-index l.names) ≡ relations_of l.found l.dependencies l.names
