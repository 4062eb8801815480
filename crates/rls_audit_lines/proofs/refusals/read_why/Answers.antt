use Rattle.std.proofs.Common.{refl, sym, ◌∙◌, subst}
use Rattle.rls_codec.specs.Reading.{Reads}
use Rattle.rls_audit_lines.proofs.RefusalLemmas.{column_kept, pair_kept}
use Rattle.rls_audit_lines.proofs.refusals.read_why.Goals as goal

pub returns-then-is_word : goal.returns-then-is_word
returns-then-is_word g c = rw (sym c.is_word.ensures ∙ c.if-is_word.true, pair_kept _ _ _ c.in_ok-privilege.ensures) refl

pub returns-then-is_word-5 : goal.returns-then-is_word-5
returns-then-is_word-5 g c =
    rw (
      sym c.is_word.ensures ∙ c.if-is_word.false,
      sym c.is_word-2.ensures ∙ c.if-is_word-2.false,
      sym c.is_word-3.ensures ∙ c.if-is_word-3.false,
      sym c.is_word-4.ensures ∙ c.if-is_word-4.false,
      sym c.is_word-5.ensures ∙ c.if-is_word-5.true,
      pair_kept _ _ _ c.in_ok-privilege-2.ensures,
    ) refl

pub returns-then-is_word-8 : goal.returns-then-is_word-8
returns-then-is_word-8 g c =
    rw (
      sym c.is_word.ensures ∙ c.if-is_word.false,
      sym c.is_word-2.ensures ∙ c.if-is_word-2.false,
      sym c.is_word-3.ensures ∙ c.if-is_word-3.false,
      sym c.is_word-4.ensures ∙ c.if-is_word-4.false,
      sym c.is_word-5.ensures ∙ c.if-is_word-5.false,
      sym c.is_word-6.ensures ∙ c.if-is_word-6.false,
      sym c.is_word-7.ensures ∙ c.if-is_word-7.false,
      sym c.is_word-8.ensures ∙ c.if-is_word-8.true,
    ) (subst (Reads c.read_column.result) (column_kept _) c.read_column.ensures)
