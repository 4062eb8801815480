use Rattle.std.proofs.Common.{◌≡◌, ◌+◌, ◌++◌, map, length}
use Rattle.std.specs.Str.Lines.{lines}
use Rattle.rls_transcript.specs.Marks.{tolds_in}
use Rattle.rls_transcript.proofs.marking.tolds_of.Given as goal

-- the answers that were cut off, with those of what is left, are all
abbrev pub invariant-loop-rest : goal.invariant-loop-rest
invariant-loop-rest l =
    (l.tolds.items ++ tolds_in (map (λ line. line.now) l.rest) (map (λ line. line.now) l.left) ≡ tolds_in (map (λ line. line.now) l.lines) (lines l.text))
    × (length l.tolds.items + length l.rest ≡ length l.lines)

abbrev pub decreases-loop-rest : goal.decreases-loop-rest
decreases-loop-rest l = length l.rest
