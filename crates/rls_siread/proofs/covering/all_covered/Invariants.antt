use Rattle.std.proofs.Common.{◌≡◌, drop}
use Rattle.rls_source.specs.Footprints.{with_reads}
use Rattle.rls_siread.specs.Covering.{covered_by_all, covered_of}
use Rattle.rls_siread.proofs.covering.all_covered.Given as goal

-- what is left leads to the objects of all
abbrev pub invariant-loop-change : goal.invariant-loop-change
invariant-loop-change l = with_reads l.objects (covered_by_all (drop l.change-index l.changes)) ≡ covered_of l.changes
