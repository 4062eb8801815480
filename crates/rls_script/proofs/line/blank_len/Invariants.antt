use Rattle.std.proofs.Common.{◌≡◌, ◌+◌, length}
use Rattle.std.specs.List.{prefix_len}
use Rattle.rls_script.specs.Lines.{is_blank}
use Rattle.rls_script.proofs.line.blank_len.Given as goal

-- what was passed is blank, and with what is left it is the whole
abbrev pub invariant-loop-rest : goal.invariant-loop-rest
invariant-loop-rest l = (l.len + prefix_len is_blank l.rest ≡ prefix_len is_blank l.bytes) × (l.len + length l.rest ≡ length l.bytes)

abbrev pub decreases-loop-rest : goal.decreases-loop-rest
decreases-loop-rest l = length l.rest
