use Rattle.std.proofs.Common.{◌≡◌, ◌++◌, ◌∷◌, [], OnOk, subst, sym}
use Rattle.std.specs.Char.{encode_utf8}
use Rattle.rls_printing.specs.OutputTokens.{doubled}
use Rattle.rls_printing.specs.Outputs.{text_of}
use Rattle.rls_printing.proofs.OutputLemmas.{text_with, text_grows, chars_quotes, chars_char, doubled_other}
use Rattle.rls_printing.proofs.buffer.write_letter.Goals as goal

pub returns-then-letter-eq39 : goal.returns-then-letter-eq39
returns-then-letter-eq39 c =
    subst (λ n. OnOk c.write.result (text_of c.write.new.text ≡ text_of c.args.text.now ++ doubled n)) (sym c.if-letter-eq39.true)
    (text_with c.write.result c.args.text.now c.write.new.text (39 ∷ 39 ∷ []) (39 ∷ 39 ∷ []) c.write.ensures chars_quotes)

pub returns-else-letter-eq39 : goal.returns-else-letter-eq39
returns-else-letter-eq39 c =
    subst (λ cs. OnOk c.push.result (text_of c.push.new.self ≡ text_of c.args.text.now ++ cs)) (sym (doubled_other c.args.letter c.if-letter-eq39.false))
    (text_with c.push.result c.args.text.now c.push.new.self (encode_utf8 c.args.letter) (c.args.letter ∷ [])
    (text_grows c.push.result c.args.text.now c.push.new.self (encode_utf8 c.args.letter) c.push.ensures.bytes) (chars_char c.args.letter c.ranges.letter.0))
