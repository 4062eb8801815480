use Rattle.std.proofs.Common.{◌≡◌, ◌+◌, map, length}
use Rattle.std.specs.List.{position_or_len}
use Rattle.rls_transcript.specs.Marks.{is_mark}
use Rattle.rls_transcript.proofs.marking.mark_place.Given as goal

-- what was passed holds no mark, and with what is left it is the whole
abbrev pub invariant-loop-rest : goal.invariant-loop-rest
invariant-loop-rest l = (l.place + position_or_len is_mark (map (λ line. line.now) l.rest) ≡ position_or_len is_mark (map (λ line. line.now) l.text)) × (l.place + length l.rest ≡ length l.text)

abbrev pub decreases-loop-rest : goal.decreases-loop-rest
decreases-loop-rest l = length l.rest
