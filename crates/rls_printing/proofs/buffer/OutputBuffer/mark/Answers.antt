use Rattle.std.proofs.Common.{refl, ap, sym, ◌∙◌, ◌++◌, Some}
use Rattle.std.specs.Str.{chars}
use Rattle.rls_printing.specs.OutputTokens.{Marked}
use Rattle.rls_printing.specs.Outputs as spec
use Rattle.rls_printing.specs.Outputs.{text_of}
use Rattle.rls_printing.proofs.OutputLemmas.{put_is, chars_mark}
use Rattle.rls_printing.proofs.buffer.OutputBuffer.mark.Goals as goal

pub returns : goal.returns
returns c = put_is (text_of c.args.self.now.text) (text_of c.space.new.text) (text_of c.write.new.text) c.args.self.now.tight (Marked c.args.mark) refl
    (c.in_ok-space.ensures ∙ ap (λ z. text_of c.args.self.now.text ++ spec.space z) c.is_tight-none.ensures)
    (c.in_ok-write.ensures ∙ ap (λ z. text_of c.space.new.text ++ z) (ap chars c.mark_text.ensures ∙ chars_mark c.args.mark))
    ∙ ap (λ z. Some (text_of c.write.new.text, z)) (sym c.opens-self.ensures)
