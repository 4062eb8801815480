use Rattle.std.proofs.Common.{◌≡◌}
use Rattle.rls_guard.specs.rls_source.specs.Sequences.{each_of}
use Rattle.rls_guard.specs.rls_source.proofs.EachLemmas.{left}
use Rattle.rls_ddl.specs.CreatingTables.{place_or_undefined}
use Rattle.rls_ddl.proofs.primary_keys.places_of.Given as goal

-- what is left, behind what is found, gives what the whole gives
abbrev pub invariant-loop-name : goal.invariant-loop-name
invariant-loop-name l = each_of (place_or_undefined l.columns) l.names ≡ left (place_or_undefined l.columns) l.places l.names l.name-index
