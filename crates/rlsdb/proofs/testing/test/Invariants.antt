use Rattle.std.proofs.Common.{map, length}
use Rattle.rlsdb.proofs.TestLemmas.{SoFar}
use Rattle.rlsdb.proofs.testing.test.Given as goal

-- what was written so far, and what the transcripts that are left will come to, make the whole
abbrev pub invariant-loop-rest : goal.invariant-loop-rest
invariant-loop-rest g l = SoFar (map (λ name. name.now) l.tests.files.items) (map (λ name. name.now) l.rest) l.initial.output.taken.bytes l.output.taken.bytes l.passed

abbrev pub decreases-loop-rest : goal.decreases-loop-rest
decreases-loop-rest g l = length l.rest
