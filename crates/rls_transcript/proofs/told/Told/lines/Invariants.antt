use Rattle.std.proofs.Common.{◌≡◌, ◌++◌, map, length}
use Rattle.rls_transcript.specs.Told.{told_lines}
use Rattle.rls_transcript.proofs.told.Told.lines.Given as goal

-- the lines that were passed, with those of what is left, are all
abbrev pub invariant-loop-rest : goal.invariant-loop-rest
invariant-loop-rest l = map (λ line. line.now) l.all.items ++ told_lines l.rest ≡ told_lines l.self.text

abbrev pub decreases-loop-rest : goal.decreases-loop-rest
decreases-loop-rest l = length l.rest
