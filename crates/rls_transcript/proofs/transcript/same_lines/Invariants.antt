use Rattle.std.proofs.Common.{◌≡◌, map, length}
use Rattle.rls_transcript.specs.Transcripts.{same_lines}
use Rattle.rls_transcript.proofs.transcript.same_lines.Given as goal

-- the lines that were passed are the same
abbrev pub invariant-loop-left : goal.invariant-loop-left
invariant-loop-left l = same_lines (map (λ line. line.now) l.left) (map (λ line. line.now) l.right) ≡ same_lines (map (λ line. line.now) l.expected) (map (λ line. line.now) l.answered)

abbrev pub decreases-loop-left : goal.decreases-loop-left
decreases-loop-left l = length l.left
