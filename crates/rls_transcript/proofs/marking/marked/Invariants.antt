use Rattle.std.proofs.Common.{◌≡◌, ◌++◌, map, length}
use Rattle.rls_transcript.specs.Marks.{marked}
use Rattle.rls_transcript.specs.Told.{ended}
use Rattle.rls_transcript.proofs.marking.marked.Given as goal

-- what is put, and what is left, make the whole
abbrev pub invariant-loop-rest : goal.invariant-loop-rest
invariant-loop-rest l = l.script.items ++ ended (marked (map (λ line. line.now) l.rest)) ≡ ended (marked (map (λ line. line.now) l.lines))

abbrev pub decreases-loop-rest : goal.decreases-loop-rest
decreases-loop-rest l = length l.rest
