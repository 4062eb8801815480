use Rattle.std.proofs.Common.{◌≡◌, ◌++◌, drop}
use Rattle.rls_recursion.specs.rls_catalog.specs.Membership.{fresh}
use Rattle.rls_expansion.proofs.dependencies.add_fresh.Given as goal

-- what is left to add leads to the whole
abbrev pub invariant-loop-name : goal.invariant-loop-name
invariant-loop-name l = l.names.items ++ fresh l.names.items (drop l.name-index l.more) ≡ l.fn.names.items ++ fresh l.fn.names.items l.more
