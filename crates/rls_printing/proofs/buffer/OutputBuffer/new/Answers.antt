use Rattle.std.proofs.Common.{ap, ◌∙◌, true}
use Rattle.std.specs.Str.{chars}
use Rattle.std.proofs.lemmas.Str.{chars-nil}
use Rattle.rls_printing.specs.Outputs.{text_of}
use Rattle.rls_printing.proofs.buffer.OutputBuffer.new.Goals as goal

pub returns : goal.returns
unfolding text_of
returns c = ap (λ z. (z, true)) (ap chars c.new.ensures.bytes ∙ chars-nil)
