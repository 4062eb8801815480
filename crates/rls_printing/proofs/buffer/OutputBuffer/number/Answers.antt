use Rattle.std.proofs.Common.{refl, ap, ◌∙◌, ◌++◌, rules}
use Rattle.std.specs.Fmt.{signed_decimal}
use Rattle.std.proofs.lemmas.Int.{to_z-of_z}
use mir.Syntax.{w64}
use Rattle.rls_printing.specs.OutputTokens.{Number}
use Rattle.rls_printing.specs.Outputs.{text_of}
use Rattle.rls_printing.proofs.OutputLemmas.{put_word, number_fit}
use Rattle.rls_printing.proofs.buffer.OutputBuffer.number.Goals as goal

pub returns : goal.returns
returns c = put_word (text_of c.args.self.now.text) (text_of c.space.new.text) (text_of c.write_number.new.text) c.args.self.now.tight (Number c.args.number) (number_fit c.args.number (search rules)) refl c.in_ok-space.ensures
    (c.in_ok-write_number.ensures ∙ ap (λ z. text_of c.space.new.text ++ signed_decimal z) (to_z-of_z w64 c.args.number c.ranges.number))
