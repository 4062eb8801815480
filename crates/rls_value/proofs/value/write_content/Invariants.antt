use Rattle.std.proofs.Common.{flat_map}
use Rattle.std.specs.Fmt.{HasWritten, IsPlainFormatter}
use Rattle.rls_value.specs.Values.{within_quotes}
use Rattle.rls_value.proofs.value.write_content.Given as goal

-- the characters passed are written
abbrev pub invariant-loop-c : goal.invariant-loop-c
invariant-loop-c g l = IsPlainFormatter l.fn.f → HasWritten g.W.Write.write_str_gives l.fn.f (flat_map within_quotes l.yielded) l.f
