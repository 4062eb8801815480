use Rattle.std.proofs.Common.{◌≡◌, ◌++◌, false, map, length}
use Rattle.rls_transcript.specs.Transcripts.{filled_from}
use Rattle.rls_transcript.specs.Told.{ended}
use Rattle.rls_transcript.proofs.transcript.filled.Given as goal

-- what is put, and what is left, make the whole
abbrev pub invariant-loop-rest : goal.invariant-loop-rest
invariant-loop-rest l = l.text.items ++ ended (filled_from l.indent l.of_shell (map (λ line. line.now) l.rest) l.answers) ≡ ended (filled_from l.indent false (map (λ line. line.now) l.lines) l.tolds)

abbrev pub decreases-loop-rest : goal.decreases-loop-rest
decreases-loop-rest l = length l.rest
