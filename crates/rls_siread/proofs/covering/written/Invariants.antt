use Rattle.std.proofs.Common.{◌≡◌, drop}
use Rattle.rls_source.specs.Footprints.{with_reads}
use Rattle.rls_siread.specs.Covering.{written_by_all, written_of}
use Rattle.rls_siread.proofs.covering.written.Given as goal

-- what is left leads to the objects of all
abbrev pub invariant-loop-change : goal.invariant-loop-change
invariant-loop-change l = with_reads l.objects (written_by_all (drop l.change-index l.changes)) ≡ written_of l.changes
