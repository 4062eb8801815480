use Rattle.std.proofs.Common.{take}
use Rattle.std.specs.Prelude.{MatchOption}
use Rattle.rls_conflict.specs.Search.{IsBeyond, NoneBeyond}
use Rattle.rls_conflict.proofs.structure_search.beyond.Given as goal

-- none beyond the ones so far, or one that counts
abbrev pub invariant-loop-pivot : goal.invariant-loop-pivot
invariant-loop-pivot l = MatchOption l.found (NoneBeyond l.committed (take l.pivot-index l.read) l.has_written l.snap) (IsBeyond l.committed l.read l.has_written l.snap)
