use Rattle.std.proofs.Common.{◌≡◌, ◌++◌, length}
use Rattle.rls_printing.specs.Escaped.{escaped_text}
use Rattle.rls_printing.proofs.escaping.push_escaped.Given as goal

-- what is written, and what is written of the bytes that are left, make the whole
abbrev pub invariant-loop-bytes : goal.invariant-loop-bytes
invariant-loop-bytes l = l.text.items ++ escaped_text l.bytes ≡ l.fn.text.items ++ escaped_text l.fn.bytes

abbrev pub decreases-loop-bytes : goal.decreases-loop-bytes
decreases-loop-bytes l = length l.bytes
