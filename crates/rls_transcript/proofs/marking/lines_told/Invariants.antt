use Rattle.std.proofs.Common.{◌≤◌, length}
use Rattle.rls_transcript.proofs.marking.lines_told.Given as goal

-- no more lines are left than there are
abbrev pub invariant-loop-rest : goal.invariant-loop-rest
invariant-loop-rest l = length l.rest ≤ length l.lines

abbrev pub decreases-loop-rest : goal.decreases-loop-rest
decreases-loop-rest l = length l.rest
