use Rattle.std.proofs.Common.{◌≡◌, ◌++◌, drop}
use Rattle.rls_meaning.specs.rls_dml.specs.Inserting.{places_from}
use Rattle.rls_explain.proofs.resolving.all_places.Given as goal

-- the places so far, and those that are left, are all
abbrev pub invariant-loop-place : goal.invariant-loop-place
invariant-loop-place l = l.places.items ++ places_from l.place (drop l.place l.columns) ≡ places_from 0 l.columns
