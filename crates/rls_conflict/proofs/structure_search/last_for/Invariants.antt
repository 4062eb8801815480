use Rattle.std.proofs.Common.{take}
use Rattle.std.specs.Prelude.{MatchOption}
use Rattle.rls_conflict.specs.Search.{IsLast, NoLast}
use Rattle.rls_conflict.proofs.structure_search.last_for.Given as goal

-- none among the last ones so far, or one that counts
abbrev pub invariant-loop-last : goal.invariant-loop-last
invariant-loop-last l = MatchOption l.found (NoLast l.committed l.first (take l.last-index l.read)) (IsLast l.committed l.first l.read)
