use Rattle.std.proofs.Common.{◌≡◌, ◌≤◌, ◌-◌, suc, map, length}
use Rattle.rls_transcript.specs.Transcripts.{loose_from}
use Rattle.rls_transcript.proofs.transcript.loose_in.Given as goal

-- no line that was passed is an answer, or has one
abbrev pub invariant-loop-rest : goal.invariant-loop-rest
invariant-loop-rest l = (length l.rest ≤ length l.lines) × (loose_from l.indent (suc (length l.lines - length l.rest)) (map (λ line. line.now) l.rest) ≡ loose_from l.indent 1 (map (λ line. line.now) l.lines))

abbrev pub decreases-loop-rest : goal.decreases-loop-rest
decreases-loop-rest l = length l.rest
