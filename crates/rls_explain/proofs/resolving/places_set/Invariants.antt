use Rattle.std.proofs.Common.{◌≡◌, ◌++◌, drop}
use Rattle.rls_explain.specs.Found.{places_set}
use Rattle.rls_explain.proofs.resolving.places_set.Given as goal

-- the places so far, and those of the assignments that are left, are all
abbrev pub invariant-loop-assignment : goal.invariant-loop-assignment
invariant-loop-assignment l = l.places.items ++ places_set l.table.columns (drop l.assignment-index l.assignments) ≡ places_set l.table.columns l.assignments
