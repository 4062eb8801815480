-- Phrases of the grammar close the parentheses that they open.
use Rattle.std.specs.Prelude.{◌≡◌, refl, ℕ, zero, suc, ◌+◌, List, [], ◌∷◌, ◌++◌, Bool, false, Option, Some, None}
use Rattle.std.proofs.Common.{arith, ap, ◌∙◌, inl, inr}
use Rattle.rls_audit.specs.rls_audit_lines.specs.rls_text.specs.{declared.token.Token.Token, ParseResults.open_behind, Cut.Cut, Cutting.tree_of, FirstSets.expr_heads, FirstSets.expr_more, Lang.only, Lang.Both, Lang.Mapped, Lang.Either, Lang.Perhaps, Lang.Many, Lang.Checked, Lang.One, Lang.After, Lang.Before}
use Rattle.rls_audit.specs.rls_audit_lines.specs.rls_text.specs.declared.token.Token.TheVariants.{Word, Number, Text}
use Rattle.rls_audit.specs.rls_audit_lines.specs.rls_text.specs.declared.token.Symbol.TheVariants as s
use Rattle.rls_audit.specs.rls_audit_lines.specs.rls_text.specs.declared.token.Token.TheVariants as t
use Rattle.rls_audit.specs.rls_audit_lines.specs.rls_text.specs.Cut as cut
use Rattle.rls_audit.specs.rls_audit_lines.specs.rls_text.specs.Rule as base
use Rattle.rls_audit.specs.rls_audit_lines.specs.rls_text.specs.Values as v
use Rattle.rls_audit.specs.rls_audit_lines.specs.rls_text.specs.Grammar as g

-- how many parentheses are open behind the tokens
abbrev pub open_after : ℕ → List Token → ℕ
open_after unclosed [] = unclosed
open_after unclosed (token ∷ tokens) = open_after (open_behind unclosed token) tokens

-- as many are open behind what is spelled as before it
pub record Closes {A : Type 0} (p : List Token → A → Type 0) : Type 0 where
  pub closes : (ts : List Token) (a : A) → p ts a → (unclosed : ℕ) → open_after unclosed ts ≡ unclosed

pub open_behind_both : (unclosed : ℕ) (front rest : List Token) → open_after unclosed (front ++ rest) ≡ open_after (open_after unclosed front) rest
open_behind_both unclosed [] rest = refl
open_behind_both unclosed (token ∷ front) rest = open_behind_both (open_behind unclosed token) front rest

-- ---- what is put together

token_closes : (token : Token) → ((unclosed : ℕ) → open_behind unclosed token ≡ unclosed) → Closes (only token)
token_closes token flat = record { closes = λ ts a is unclosed. ap (open_after unclosed) is ∙ flat unclosed }

pub word_closes : (w : List ℕ) → Closes (only (Word w))
word_closes w = record { closes = λ ts a is unclosed. ap (open_after unclosed) is }

pub both_closes : {A B : Type 0} (p : List Token → A → Type 0) (q : List Token → B → Type 0) → Closes p → Closes q → Closes (Both p q)
both_closes p q one other = record {
  closes = λ ts r x unclosed.
      ap (open_after unclosed) x.split ∙ open_behind_both unclosed x.front x.rest
      ∙ ap (λ n. open_after n x.rest) (one.closes x.front r.0 x.one unclosed) ∙ other.closes x.rest r.1 x.other unclosed;
}

pub mapped_closes : {A B : Type 0} (f : A → B) (p : List Token → A → Type 0) → Closes p → Closes (Mapped f p)
mapped_closes f p one = record { closes = λ ts b x unclosed. one.closes ts x.source x.spelled unclosed }

pub either_closes : {A : Type 0} (p q : List Token → A → Type 0) → Closes p → Closes q → Closes (Either p q)
either_closes p q one other = record { closes = λ ts a x unclosed. elim x [ inl y ↦ one.closes ts a y unclosed | inr y ↦ other.closes ts a y unclosed ] }

module _ {A : Type 0} (p : List Token → A → Type 0) (one : Closes p) where
  perhaps_close : (ts : List Token) (a : Option A) → Perhaps p ts a → (unclosed : ℕ) → open_after unclosed ts ≡ unclosed
  perhaps_close ts None x unclosed = ap (open_after unclosed) x
  perhaps_close ts (Some a) x unclosed = one.closes ts a x unclosed

  pub perhaps_closes : Closes (Perhaps p)
  perhaps_closes = record { closes = perhaps_close }

  many_close : (ts : List Token) (a : List A) → Many p ts a → (unclosed : ℕ) → open_after unclosed ts ≡ unclosed
  many_close ts [] x unclosed = ap (open_after unclosed) x
  many_close ts (a ∷ more) x unclosed =
      ap (open_after unclosed) x.2 ∙ open_behind_both unclosed x.0 x.1
      ∙ ap (λ n. open_after n x.1) (one.closes x.0 a x.3 unclosed) ∙ many_close x.1 more x.4 unclosed

  pub many_closes : Closes (Many p)
  many_closes = record { closes = many_close }

pub checked_closes : {A : Type 0} (test : A → Bool) (p : List Token → A → Type 0) → Closes p → Closes (Checked test p)
checked_closes test p one = record { closes = λ ts a x unclosed. one.closes ts a x.spelled unclosed }

one_closes : {A : Type 0} (f : Token → Option A) → ((token : Token) (a : A) → f token ≡ Some a → (unclosed : ℕ) → open_behind unclosed token ≡ unclosed) → Closes (One f)
one_closes f flat = record { closes = λ ts a x unclosed. ap (open_after unclosed) x.alone ∙ flat x.token a x.value unclosed }

pub after_closes : {A B : Type 0} (p : List Token → A → Type 0) (q : List Token → B → Type 0) → Closes p → Closes q → Closes (After p q)
after_closes p q one other = mapped_closes _ _ (both_closes p q one other)

before_closes : {A B : Type 0} (p : List Token → A → Type 0) (q : List Token → B → Type 0) → Closes p → Closes q → Closes (Before p q)
before_closes p q one other = mapped_closes _ _ (both_closes p q one other)

-- between parentheses
enclosed_closes : {A : Type 0} (p : List Token → A → Type 0) → Closes p → Closes (After (only (t.Symbol s.LParen)) (Before p (only (t.Symbol s.RParen))))
enclosed_closes {A = A} p one = record { closes = λ ts a x unclosed. go ts a x unclosed }
  where
    go : (ts : List Token) (a : A) → After (only (t.Symbol s.LParen)) (Before p (only (t.Symbol s.RParen))) ts a → (unclosed : ℕ) → open_after unclosed ts ≡ unclosed
    go ts a x unclosed =
        let y = x.spelled in
        let z = y.other.spelled in
        ap (open_after unclosed) y.split ∙ open_behind_both unclosed y.front y.rest
        ∙ ap (λ front. open_after (open_after unclosed front) y.rest) y.one
        ∙ ap (open_after (unclosed + 1)) z.split ∙ open_behind_both (unclosed + 1) z.front z.rest
        ∙ ap (λ n. open_after n z.rest) (one.closes z.front y.other.source.0 z.one (unclosed + 1))
        ∙ ap (open_after (unclosed + 1)) z.other ∙ omega arith

-- ---- names, literals and items

name_flat : (token : Token) (a : List ℕ) → v.name_of token ≡ Some a → (unclosed : ℕ) → open_behind unclosed token ≡ unclosed
name_flat (Word w) a h unclosed = refl
name_flat _ a h unclosed = cc

text_flat : (token : Token) (a : List ℕ) → v.text_of token ≡ Some a → (unclosed : ℕ) → open_behind unclosed token ≡ unclosed
text_flat (Text x) a h unclosed = refl
text_flat _ a h unclosed = cc

number_flat : (token : Token) (a : ℕ) → v.number_of token ≡ Some a → (unclosed : ℕ) → open_behind unclosed token ≡ unclosed
number_flat (Number n) a h unclosed = refl
number_flat _ a h unclosed = cc

pub name_closes : Closes g.name.spells
unfolding g.name
name_closes = one_closes _ name_flat

comma_closes : {A : Type 0} (p : List Token → A → Type 0) → Closes p → Closes (After (only (t.Symbol s.Comma)) p)
comma_closes p one = after_closes _ _ (token_closes (t.Symbol s.Comma) (λ unclosed. refl)) one

literal_closes : Closes g.literal.spells
unfolding g.literal g.constant g.text g.number g.digits
literal_closes =
    either_closes _ _ (either_closes _ _ (mapped_closes _ _ (word_closes _)) (either_closes _ _ (mapped_closes _ _ (word_closes _)) (mapped_closes _ _ (word_closes _))))
    (either_closes _ _ (mapped_closes _ _ (one_closes _ text_flat)) (mapped_closes _ _ (checked_closes _ _ (both_closes _ _ (perhaps_closes _ (token_closes (t.Symbol s.Minus) (λ unclosed. refl))) (one_closes _ number_flat)))))

item_closes : Closes g.item.spells
unfolding g.item g.column g.behind_dot
item_closes =
    either_closes _ _ (mapped_closes _ _ literal_closes)
    (either_closes _ _ (mapped_closes _ _ (mapped_closes _ _ (both_closes _ _ name_closes (perhaps_closes _ (after_closes _ _ (token_closes (t.Symbol s.Dot) (λ unclosed. refl)) name_closes)))))
    (mapped_closes _ _ (word_closes _)))

items_close : Closes g.items.spells
unfolding g.items g.count g.selected_items g.item_list base.with_comma
items_close =
    either_closes _ _ (mapped_closes _ _ (token_closes (t.Symbol s.Star) (λ unclosed. refl)))
    (either_closes _ _ (mapped_closes _ _ (after_closes _ _ (word_closes _) (enclosed_closes _ (token_closes (t.Symbol s.Star) (λ unclosed. refl)))))
    (mapped_closes _ _ (mapped_closes _ _ (both_closes _ _ item_closes (many_closes _ (comma_closes _ item_closes))))))

from_closes : Closes g.from_table.spells
unfolding g.from_table g.alias_if_any g.alias
from_closes = after_closes _ _ (word_closes _) (both_closes _ _ name_closes (perhaps_closes _ (mapped_closes _ _ (both_closes _ _ (perhaps_closes _ (word_closes _)) name_closes))))

-- ---- expressions

comparison_closes : Closes g.comparison.spells
unfolding g.comparison
comparison_closes =
    either_closes _ _ (mapped_closes _ _ (token_closes (t.Symbol s.Equal) (λ unclosed. refl))) (either_closes _ _ (mapped_closes _ _ (token_closes (t.Symbol s.NotEqual) (λ unclosed. refl)))
    (either_closes _ _ (mapped_closes _ _ (token_closes (t.Symbol s.Less) (λ unclosed. refl))) (either_closes _ _ (mapped_closes _ _ (token_closes (t.Symbol s.LessOrEqual) (λ unclosed. refl)))
    (either_closes _ _ (mapped_closes _ _ (token_closes (t.Symbol s.Greater) (λ unclosed. refl))) (mapped_closes _ _ (token_closes (t.Symbol s.GreaterOrEqual) (λ unclosed. refl)))))))

sign_closes : Closes g.part_sign.spells
unfolding g.part_sign
sign_closes = either_closes _ _ (mapped_closes _ _ (token_closes (t.Symbol s.Plus) (λ unclosed. refl))) (mapped_closes _ _ (token_closes (t.Symbol s.Minus) (λ unclosed. refl)))

module _ (i : Cut tree_of expr_heads expr_more false) (one : Closes i.rule.spells) where
  pub parenthesized_closes : Closes (g.parenthesized i).rule.spells
  unfolding g.parenthesized
  parenthesized_closes = enclosed_closes _ one

  select_closes : Closes (g.select_parts i).rule.spells
  unfolding g.select_parts g.condition
  select_closes = after_closes _ _ (word_closes _) (both_closes _ _ items_close (both_closes _ _ from_closes (perhaps_closes _ (after_closes _ _ (word_closes _) one))))

  prim_closes : Closes (g.prim i).rule.spells
  unfolding g.prim g.exists g.enclosed g.scalar
  prim_closes =
      either_closes _ _ item_closes
      (either_closes _ _ (mapped_closes _ _ (after_closes _ _ (word_closes _) (enclosed_closes _ select_closes)))
      (enclosed_closes _ (either_closes _ _ (mapped_closes _ _ select_closes) one)))

  sum_closes : Closes (g.sum i).rule.spells
  unfolding g.sum g.sum_next
  sum_closes = mapped_closes _ _ (both_closes _ _ prim_closes (many_closes _ (both_closes _ _ sign_closes prim_closes)))

  parts_close : Closes (g.parts i).rule.spells
  unfolding g.parts cut.with_comma
  parts_close = mapped_closes _ _ (both_closes _ _ one (many_closes _ (comma_closes _ one)))

  choices_close : Closes (g.enclosed_choices i).rule.spells
  unfolding g.enclosed_choices g.choices
  choices_close = enclosed_closes _ (either_closes _ _ (mapped_closes _ _ select_closes) (mapped_closes _ _ parts_close))

  memb_closes : Closes (g.memb i).rule.spells
  unfolding g.memb g.in_choices g.in_word
  memb_closes = mapped_closes _ _ (both_closes _ _ sum_closes (perhaps_closes _ (both_closes _ _ (before_closes _ _ (perhaps_closes _ (word_closes _)) (word_closes _)) choices_close)))

  cmp_closes : Closes (g.cmp i).rule.spells
  unfolding g.cmp
  cmp_closes = mapped_closes _ _ (both_closes _ _ memb_closes (perhaps_closes _ (both_closes _ _ comparison_closes memb_closes)))

  is_closes : Closes (g.is i).rule.spells
  unfolding g.is g.null_test
  is_closes = mapped_closes _ _ (both_closes _ _ cmp_closes (many_closes _ (after_closes _ _ (word_closes _) (before_closes _ _ (perhaps_closes _ (word_closes _)) (word_closes _)))))

  not_closes : Closes (g.not_ i).rule.spells
  unfolding g.not_ g.nots
  not_closes = mapped_closes _ _ (both_closes _ _ (mapped_closes _ _ (many_closes _ (word_closes _))) is_closes)

  and_closes : Closes (g.and i).rule.spells
  unfolding g.and g.and_next
  and_closes = mapped_closes _ _ (both_closes _ _ not_closes (many_closes _ (after_closes _ _ (word_closes _) not_closes)))

  or_closes : Closes (g.or i).rule.spells
  unfolding g.or g.or_next
  or_closes = mapped_closes _ _ (both_closes _ _ and_closes (many_closes _ (after_closes _ _ (word_closes _) and_closes)))

pub expr_closes : (depth : ℕ) → Closes (g.expr depth).rule.spells
unfolding g.expr
expr_closes zero = record { closes = λ ts a x unclosed. absurd x }
expr_closes (suc depth) = or_closes (g.expr depth) (expr_closes depth)

-- ---- parts of policies

pub on_closes : Closes g.policy_on.spells
unfolding g.policy_on
on_closes = both_closes _ _ name_closes (after_closes _ _ (word_closes _) name_closes)

pub options_close : Closes g.policy_options.spells
unfolding g.policy_options g.permissive g.for_commands g.policy_kind g.command_type
options_close =
    both_closes _ _ (mapped_closes _ _ (perhaps_closes _ (after_closes _ _ (word_closes _) (either_closes _ _ (mapped_closes _ _ (word_closes _)) (mapped_closes _ _ (word_closes _))))))
    (mapped_closes _ _ (perhaps_closes _ (after_closes _ _ (word_closes _) (either_closes _ _ (mapped_closes _ _ (word_closes _))
    (mapped_closes _ _ (either_closes _ _ (mapped_closes _ _ (word_closes _)) (either_closes _ _ (mapped_closes _ _ (word_closes _)) (either_closes _ _ (mapped_closes _ _ (word_closes _)) (mapped_closes _ _ (word_closes _))))))))))

to_closes : Closes g.to_grantees.spells
unfolding g.to_grantees g.grantees g.grantee base.with_comma
to_closes =
    let grantee = either_closes _ _ (mapped_closes _ _ (word_closes _)) (mapped_closes _ _ name_closes) in
    after_closes _ _ (word_closes _) (mapped_closes _ _ (both_closes _ _ grantee (many_closes _ (comma_closes _ grantee))))

pub grantees_close : Closes g.for_grantees.spells
unfolding g.for_grantees
grantees_close = mapped_closes _ _ (perhaps_closes _ to_closes)

pub new_grantees_close : Closes g.grantees_if_any.spells
unfolding g.grantees_if_any
new_grantees_close = perhaps_closes _ to_closes

module _ (i : Cut tree_of expr_heads expr_more false) (one : Closes i.rule.spells) where
  pub using_closes : Closes (g.using i).rule.spells
  unfolding g.using
  using_closes = perhaps_closes _ (after_closes _ _ (word_closes _) (parenthesized_closes i one))

  pub check_closes : Closes (g.check i).rule.spells
  unfolding g.check
  check_closes = perhaps_closes _ (after_closes _ _ (word_closes _) (after_closes _ _ (word_closes _) (parenthesized_closes i one)))
