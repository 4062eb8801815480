use Rattle.std.proofs.Common.{◌≡◌, sym, subst, ◌∙◌}
use Rattle.rls_hints.specs.declared.token.Token.TheVariants as t
use Rattle.rls_hints.specs.Reading.{seen_first}
use Rattle.rls_text.specs.Words.{word_from}
use Rattle.rls_hints.proofs.PlacedWords.{digits_seen}
use Rattle.rls_hints.proofs.reading.word_from.Goals as goal

pub returns-then-is_digit : goal.returns-then-is_digit
returns-then-is_digit c =
    subst (λ cs. (t.Number, cs) ≡ seen_first (word_from c.args.first c.args.behind.now)) (sym c.behind_digits.ensures)
    (digits_seen c.args.first c.args.behind.now c.if-first-eq39.false (sym c.is_letter.ensures ∙ c.if-is_letter.false) (sym c.is_digit.ensures ∙ c.if-is_digit.true))
