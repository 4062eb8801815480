use Rattle.std.proofs.Common.{◌≡◌, ◌++◌, flat_map}
use Rattle.rls_printing.specs.OutputTokens.{doubled}
use Rattle.rls_printing.specs.Outputs.{text_of}
use Rattle.rls_printing.proofs.buffer.write_doubled.Given as goal

-- the characters passed are written
abbrev pub invariant-loop-letter : goal.invariant-loop-letter
invariant-loop-letter l = text_of l.text ≡ text_of l.fn.text ++ flat_map doubled l.yielded
