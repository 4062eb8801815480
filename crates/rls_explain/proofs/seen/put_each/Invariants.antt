use Rattle.std.proofs.Common.{◌≡◌, ◌++◌, drop}
use Rattle.rls_explain.specs.FoundOutcomes.{seen_each}
use Rattle.rls_explain.proofs.seen.put_each.Given as goal

-- what is told so far, and of the tables that are left, is all
abbrev pub invariant-loop-name : goal.invariant-loop-name
invariant-loop-name l =
    l.outcomes.items ++ seen_each l.catalog l.role l.read (drop l.name-index l.names) ≡ l.fn.outcomes.items ++ seen_each l.catalog l.role l.read l.names
