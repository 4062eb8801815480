use Rattle.std.proofs.Common.{◌≡◌, ◌+◌, length}
use Rattle.std.specs.List.{position_or_len}
use Rattle.rls_script.specs.Lines.{is_colon}
use Rattle.rls_transcript.proofs.line.colon_len.Given as goal

-- what was passed holds no colon, and with what is left it is the whole
abbrev pub invariant-loop-rest : goal.invariant-loop-rest
invariant-loop-rest l = (l.len + position_or_len is_colon l.rest ≡ position_or_len is_colon l.line) × (l.len + length l.rest ≡ length l.line)

abbrev pub decreases-loop-rest : goal.decreases-loop-rest
decreases-loop-rest l = length l.rest
