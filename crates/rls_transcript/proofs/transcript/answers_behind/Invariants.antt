use Rattle.std.proofs.Common.{◌≡◌, ◌++◌, map, length}
use Rattle.rls_transcript.specs.Transcripts.{answers_behind}
use Rattle.rls_transcript.proofs.transcript.answers_behind.Given as goal

-- the answers that are put, with those of what is left, are all
abbrev pub invariant-loop-rest : goal.invariant-loop-rest
invariant-loop-rest l = map (λ line. line.now) l.answers.items ++ answers_behind l.indent (map (λ line. line.now) l.rest) ≡ answers_behind l.indent (map (λ line. line.now) l.lines)

abbrev pub decreases-loop-rest : goal.decreases-loop-rest
decreases-loop-rest l = length l.rest
