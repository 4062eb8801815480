use Rattle.std.proofs.Common.{take}
use Rattle.std.specs.Fmt.{HasWritten, IsPlainFormatter}
use Rattle.rls_value.specs.Values.{further_text}
use Rattle.rls_value.proofs.object.write_further.Given as goal

-- the values passed are written
abbrev pub invariant-loop-value : goal.invariant-loop-value
invariant-loop-value g l = IsPlainFormatter l.fn.f → HasWritten g.W.Write.write_str_gives l.fn.f (further_text (take l.value-index l.values)) l.f
