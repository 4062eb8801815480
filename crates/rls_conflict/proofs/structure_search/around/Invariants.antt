use Rattle.std.proofs.Common.{take}
use Rattle.std.specs.Prelude.{MatchOption}
use Rattle.rls_conflict.specs.Search.{IsAround, NoneAround}
use Rattle.rls_conflict.proofs.structure_search.around.Given as goal

-- none among the first ones so far, or one that counts
abbrev pub invariant-loop-first : goal.invariant-loop-first
invariant-loop-first l = MatchOption l.found (NoneAround l.committed (take l.first-index l.readers) l.read) (IsAround l.committed l.readers l.read)
