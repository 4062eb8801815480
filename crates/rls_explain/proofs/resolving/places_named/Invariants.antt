use Rattle.std.proofs.Common.{◌≡◌, ◌++◌, drop, map}
use Rattle.rls_explain.specs.Found.{place_of}
use Rattle.rls_explain.proofs.resolving.places_named.Given as goal

-- the places so far, and those of the names that are left, are all
abbrev pub invariant-loop-name : goal.invariant-loop-name
invariant-loop-name l = l.places.items ++ map (place_of l.table.columns) (drop l.name-index l.names) ≡ map (place_of l.table.columns) l.names
