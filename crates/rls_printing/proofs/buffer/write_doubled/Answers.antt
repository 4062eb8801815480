use Rattle.std.proofs.Common.{flat_map, [], ◌∷◌, ◌++◌, sym, ap, ◌∙◌, map-id, append-nil, append_assoc}
use Rattle.std.proofs.lemmas.Iterator.{YieldsList-from_chars}
use Rattle.std.proofs.lemmas.Iterator.Consumers.{YieldsList-end}
use Rattle.std.proofs.lemmas.Grind.{flat_map-append}
use Rattle.rls_printing.specs.OutputTokens.{doubled}
use Rattle.rls_printing.specs.Outputs.{text_of}
use Rattle.rls_printing.proofs.buffer.write_doubled.Goals as goal

pub returns : goal.returns
returns c =
    let end = YieldsList-end (YieldsList-from_chars c.args.content.now c.utf8.content cc) c.loop-letter.yielded _ c.loop-letter.yielded_by _ _ c.in-None.is c.next.ensures.steps in
    c.loop-letter.invariant ∙ ap (λ z. text_of c.args.text.now ++ flat_map doubled z) (sym (map-id c.loop-letter.yielded) ∙ end.0)

pub loop-letter-preserved : goal.loop-letter-preserved
loop-letter-preserved c =
    c.in_ok-write_letter.ensures ∙ ap (λ z. z ++ doubled c.in-Some.letter) c.loop-letter.invariant
    ∙ append_assoc (text_of c.args.text.now) (flat_map doubled c.loop-letter.yielded) (doubled c.in-Some.letter)
    ∙ ap (λ z. text_of c.args.text.now ++ z) (sym (flat_map-append doubled c.loop-letter.yielded (c.in-Some.letter ∷ []) ∙ ap (λ z. flat_map doubled c.loop-letter.yielded ++ z) (append-nil (doubled c.in-Some.letter))))
