use Rattle.std.proofs.Common.{◌++◌, ◌∷◌, [], ap, ◌∙◌, append_assoc, flat_map}
use Rattle.std.specs.Str.{chars}
use Rattle.rls_printing.specs.OutputTokens.{doubled}
use Rattle.rls_printing.specs.Outputs.{text_of}
use Rattle.rls_printing.proofs.OutputLemmas.{on_ok, chars_quote}
use Rattle.rls_printing.proofs.buffer.write_quoted.Goals as goal

pub returns : goal.returns
returns c =
    let content = flat_map doubled (chars c.args.content.now) in
    on_ok c.write-2.result c.write-2.ensures (λ h.
    h ∙ ap (λ z. text_of c.write_doubled.new.text ++ z) chars_quote
    ∙ ap (λ z. z ++ 39 ∷ []) (c.in_ok-write_doubled.ensures ∙ ap (λ z. z ++ content) (c.in_ok-write.ensures ∙ ap (λ z. text_of c.args.text.now ++ z) chars_quote)
    ∙ append_assoc (text_of c.args.text.now) (39 ∷ []) content)
    ∙ append_assoc (text_of c.args.text.now) (39 ∷ content) (39 ∷ []))
