use Rattle.std.proofs.Common.{◌≡◌, map, take}
use Rattle.rls_audit.specs.FirstKeys.{place_of}
use Rattle.rls_check.proofs.keeping.places_of.Given as goal

-- the places of the first names
abbrev pub invariant-loop-name : goal.invariant-loop-name
invariant-loop-name l = l.places ≡ map (place_of l.columns) (take l.name-index l.key)
