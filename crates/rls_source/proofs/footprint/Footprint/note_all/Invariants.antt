use Rattle.std.proofs.Common.{◌≡◌, drop}
use Rattle.rls_source.specs.Footprints.{with_reads}
use Rattle.rls_source.proofs.footprint.Footprint.note_all.Given as goal

-- what is left leads to the objects with all
abbrev pub invariant-loop-object : goal.invariant-loop-object
invariant-loop-object l = with_reads l.self (drop l.object-index l.objects) ≡ with_reads l.fn.self l.objects
