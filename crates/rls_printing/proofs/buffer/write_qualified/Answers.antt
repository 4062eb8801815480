use Rattle.std.proofs.Common.{◌++◌, ◌∷◌, [], ap, ◌∙◌, append_assoc}
use Rattle.std.specs.Str.{chars}
use Rattle.rls_printing.specs.Outputs.{text_of}
use Rattle.rls_printing.proofs.OutputLemmas.{on_ok, chars_dot}
use Rattle.rls_printing.proofs.buffer.write_qualified.Goals as goal

pub returns : goal.returns
returns c = on_ok c.write-3.result c.write-3.ensures (λ h.
    h ∙ ap (λ z. z ++ chars c.args.name.now) (c.in_ok-write-2.ensures ∙ ap (λ z. text_of c.write.new.text ++ z) chars_dot ∙ ap (λ z. z ++ 46 ∷ []) c.in_ok-write.ensures
    ∙ append_assoc (text_of c.args.text.now) (chars c.args.qualifier.now) (46 ∷ []))
    ∙ append_assoc (text_of c.args.text.now) (chars c.args.qualifier.now ++ 46 ∷ []) (chars c.args.name.now)
    ∙ ap (λ z. text_of c.args.text.now ++ z) (append_assoc (chars c.args.qualifier.now) (46 ∷ []) (chars c.args.name.now)))
