use Rattle.std.proofs.Common.{◌≡◌, map, length}
use Rattle.rls_transcript.specs.Transcripts.{indent_of}
use Rattle.rls_transcript.proofs.transcript.indent_of.Given as goal

-- no line that was passed has a label
abbrev pub invariant-loop-rest : goal.invariant-loop-rest
invariant-loop-rest l = indent_of (map (λ line. line.now) l.rest) ≡ indent_of (map (λ line. line.now) l.lines)

abbrev pub decreases-loop-rest : goal.decreases-loop-rest
decreases-loop-rest l = length l.rest
