use Rattle.std.proofs.Common.{◌≡◌, take}
use Rattle.rls_dml.specs.Updating.{places_set}
use Rattle.rls_dml.proofs.analysed_update.places_set.Given as goal

-- the first places are there
abbrev pub invariant-loop-assignment : goal.invariant-loop-assignment
invariant-loop-assignment l = l.places.items ≡ places_set (take l.assignment-index l.assignments)
