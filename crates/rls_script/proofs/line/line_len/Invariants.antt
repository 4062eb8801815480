use Rattle.std.proofs.Common.{◌≡◌, ◌+◌, length}
use Rattle.std.specs.List.{position_or_len}
use Rattle.rls_script.specs.Lines.{ends_line}
use Rattle.rls_script.proofs.line.line_len.Given as goal

-- what was passed holds no LF, and with what is left it is the whole
abbrev pub invariant-loop-rest : goal.invariant-loop-rest
invariant-loop-rest l = (l.len + position_or_len ends_line l.rest ≡ position_or_len ends_line l.script) × (l.len + length l.rest ≡ length l.script)

abbrev pub decreases-loop-rest : goal.decreases-loop-rest
decreases-loop-rest l = length l.rest
