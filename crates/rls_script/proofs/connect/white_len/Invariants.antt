use Rattle.std.proofs.Common.{◌≡◌, ◌+◌, length}
use Rattle.std.specs.List.{prefix_len}
use Rattle.rls_script.specs.Connects.{is_white}
use Rattle.rls_script.proofs.connect.white_len.Given as goal

-- what was passed is such bytes, and with what is left it is the whole
abbrev pub invariant-loop-rest : goal.invariant-loop-rest
invariant-loop-rest l = (l.len + prefix_len is_white l.rest ≡ prefix_len is_white l.bytes) × (l.len + length l.rest ≡ length l.bytes)

abbrev pub decreases-loop-rest : goal.decreases-loop-rest
decreases-loop-rest l = length l.rest
