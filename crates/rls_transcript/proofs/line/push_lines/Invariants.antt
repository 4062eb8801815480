use Rattle.std.proofs.Common.{◌≡◌, ◌++◌, map, length}
use Rattle.rls_transcript.specs.Told.{ended}
use Rattle.rls_transcript.proofs.line.push_lines.Given as goal

-- what is put, and what is left, make the whole
abbrev pub invariant-loop-rest : goal.invariant-loop-rest
invariant-loop-rest l = l.text.items ++ ended (map (λ line. line.now) l.rest) ≡ l.initial.text.items ++ ended (map (λ line. line.now) l.lines)

abbrev pub decreases-loop-rest : goal.decreases-loop-rest
decreases-loop-rest l = length l.rest
