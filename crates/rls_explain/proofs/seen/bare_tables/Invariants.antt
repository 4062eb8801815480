use Rattle.std.proofs.Common.{◌≡◌, ◌++◌, drop, map}
use Rattle.rls_explain.specs.FoundOutcomes.{bare}
use Rattle.rls_explain.proofs.seen.bare_tables.Given as goal

-- those so far, and those of the names that are left, are all
abbrev pub invariant-loop-name : goal.invariant-loop-name
invariant-loop-name l = l.tables.items ++ map bare (drop l.name-index l.names) ≡ map bare l.names
