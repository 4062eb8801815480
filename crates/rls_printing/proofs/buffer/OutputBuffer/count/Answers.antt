use Rattle.std.proofs.Common.{refl, ap, ◌∙◌, ◌++◌}
use Rattle.rls_printing.specs.OutputTokens.{Count}
use Rattle.rls_printing.specs.Outputs.{text_of}
use Rattle.rls_printing.proofs.OutputLemmas.{put_word, chars_count}
use Rattle.rls_printing.proofs.buffer.OutputBuffer.count.Goals as goal

pub returns : goal.returns
returns c = put_word (text_of c.args.self.now.text) (text_of c.space.new.text) (text_of c.write.new.text) c.args.self.now.tight Count refl refl c.in_ok-space.ensures
    (c.in_ok-write.ensures ∙ ap (λ z. text_of c.space.new.text ++ z) chars_count)
