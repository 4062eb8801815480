use Rattle.std.proofs.Common.{◌≡◌, ◌+◌, length}
use Rattle.std.specs.List.{prefix_len}
use Rattle.rls_transcript.specs.Transcripts.{is_space}
use Rattle.rls_transcript.proofs.transcript.spaces_of.Given as goal

-- what was passed are spaces, and with what is left it is the whole
abbrev pub invariant-loop-rest : goal.invariant-loop-rest
invariant-loop-rest l = (l.len + prefix_len is_space l.rest ≡ prefix_len is_space l.line) × (l.len + length l.rest ≡ length l.line)

abbrev pub decreases-loop-rest : goal.decreases-loop-rest
decreases-loop-rest l = length l.rest
