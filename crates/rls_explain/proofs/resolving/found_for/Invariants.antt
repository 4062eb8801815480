use Rattle.std.proofs.Common.{◌≡◌, ◌++◌, drop}
use Rattle.rls_explain.specs.Found.{found_by}
use Rattle.rls_explain.proofs.resolving.found_for.Given as goal

-- the tables found so far, and those of the names that are left, are all
abbrev pub invariant-loop-name : goal.invariant-loop-name
invariant-loop-name l =
    l.found ++ found_by l.catalog (drop l.name-index l.names) ≡ found_by l.catalog l.names
