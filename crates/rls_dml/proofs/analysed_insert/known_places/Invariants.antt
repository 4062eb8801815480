use Rattle.std.proofs.Common.{◌≡◌}
use Rattle.rls_guard.specs.rls_source.specs.Sequences.{each_of}
use Rattle.rls_guard.specs.rls_source.proofs.EachLemmas.{left}
use Rattle.rls_dml.specs.Checking.{place_or_undefined}
use Rattle.rls_dml.proofs.analysed_insert.known_places.Given as goal

-- what is left, behind what is found, gives what the whole gives
abbrev pub invariant-loop-name : goal.invariant-loop-name
invariant-loop-name l = each_of (place_or_undefined l.table.columns) l.names ≡ left (place_or_undefined l.table.columns) l.places l.names l.name-index
