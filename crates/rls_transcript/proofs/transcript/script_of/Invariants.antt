use Rattle.std.proofs.Common.{◌≡◌, ◌+◌, ◌++◌, map, length}
use Rattle.rls_transcript.specs.Transcripts.{script_line}
use Rattle.rls_transcript.proofs.transcript.script_of.Given as goal

-- the lines that are put, with those of what is left, are the whole script's
abbrev pub invariant-loop-rest : goal.invariant-loop-rest
invariant-loop-rest l =
    (map (λ line. line.now) l.script.items ++ map (script_line l.indent) (map (λ line. line.now) l.rest) ≡ map (script_line l.indent) (map (λ line. line.now) l.lines))
    × (length l.script.items + length l.rest ≡ length l.lines)

abbrev pub decreases-loop-rest : goal.decreases-loop-rest
decreases-loop-rest l = length l.rest
