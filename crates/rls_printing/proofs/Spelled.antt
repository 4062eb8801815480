-- What is spelled is written: names, literals, items, and what a SELECT selects. The combinators are those of the grammar.
use Rattle.std.proofs.{Common.◌≡◌, Common.ℕ, Common.zero, Common.suc, Common.Bool, Common.true, Common.false, Common.◌&&◌, Common.not, Common.length, Common.nat_le, Common.if◌then◌else◌, Common.List, Common.[], Common.◌∷◌, Common.Option, Common.Some, Common.None, Common.refl, Common.sym, Common.inl, Common.inr, Common.subst, Common.arith, lemmas.Bool.and_parts, lemmas.Bool.lt-ltb, lemmas.Slice.Eq.bytes_eq-Decides, lemmas.Str.Ascii.lowercase-lowercase}
use Rattle.std.specs.Prelude.{pos, negsuc, codes, nat_lt, ◌-ℤ◌, ◌-◌, ◌^◌}
use Rattle.std.specs.{Char.to_ascii_lowercase, List.list_all, Str.bytes_eq}
use native.Mathlib.Numerals.{unary_clauses}
use Rattle.rls_value.specs.{Names.reserved, Names.is_name_text, Names.is_letter, Names.is_letter_or_digit, Names.folded, declared.value.Value.Value}
use Rattle.rls_expr.specs.Terms.{Term}
use Rattle.rls_expr.specs.Terms as e
use Rattle.rls_text.specs.{declared.token.Symbol.Symbol, declared.token.Token.Token, Heads.Head, Writes.joined, Writes.or_else, Writes.written_if, Writes.alone_if, Writes.some_is, Writes.many_writes, Writes.perhaps_writes, Lang.only, Lang.Both, Lang.Mapped, Lang.Either, Lang.Perhaps, Lang.Many, Lang.Checked, Lang.One, Lang.After, Lang.Before, Rule.Rule, Rule.in_parentheses, Rule.word, Rule.sign, Rule.after, Rule.with_comma, Rule.listed, Rule.as_list, Rule.given_if, Rule.Telling}
use Rattle.rls_text.specs.Grammar as g
use Rattle.rls_text.specs.Values as values
use Rattle.rls_text.specs.WaysBack as back
use Rattle.rls_printing.proofs.Writing.{There, there_both}

-- ---- the combinators

-- each value that p spells is written
pub record Full {A : Type 0} (p : List Token → A → Type 0) (w : A → Option (List Token)) : Type 0 where
  pub written : (ts : List Token) (a : A) → p ts a → There (w a)

pub there_first : (o u : Option (List Token)) → There o → There (or_else o u)
there_first None u h = absurd h
there_first (Some x) u h = tt

pub there_last : (o u : Option (List Token)) → There u → There (or_else o u)
there_last None u h = h
there_last (Some x) u h = tt

-- a test that is passed
pub there_if : (b : Bool) (o : Option (List Token)) → b ≡ true → There o → There (if b then o else None)
there_if true o e h = h
there_if false o e h = cc

-- what is written of a part that is there
pub there_of : {A : Type 0} (w : A → Option (List Token)) (o : Option A) (a : A) → o ≡ Some a → There (w a) → There (written_if w o)
there_of w o a e h = subst (λ z. There (written_if w z)) (sym e) h

-- all that there is
pub each_full : {A : Type 0} (p : List Token → A → Type 0) (w : A → Option (List Token)) → ((a : A) → There (w a)) → Full p w
each_full p w f = record { written = λ ts a h. f a }

pub only_full : (t : Token) → Full (only t) (λ a. Some (t ∷ []))
only_full t = record { written = λ ts a h. tt }

pub one_full : {A : Type 0} (f : Token → Option A) (back : A → Option Token) → ((t : Token) (a : A) → f t ≡ Some a → There (alone_if (back a))) → Full (One f) (λ a. alone_if (back a))
one_full f back found = record { written = λ ts a h. found h.token a h.value }

module _ {A B : Type 0} (p : List Token → A → Type 0) (w : A → Option (List Token)) (q : List Token → B → Type 0) (u : B → Option (List Token)) where
  pub both_full : Full p w → Full q u → Full (Both p q) (λ r. joined (w r.0) (u r.1))
  both_full P Q = record { written = λ ts r h. there_both (w r.0) (u r.1) (P.written h.front r.0 h.one) (Q.written h.rest r.1 h.other) }

  -- the first is written as that of a
  pub after_full : (a : A) → There (w a) → Full q u → Full (After p q) (λ b. joined (w a) (u b))
  after_full a there Q = record {
    written = λ ts b h. there_both (w a) (u b) there (subst (λ z. There (u z)) (sym h.value) (Q.written h.spelled.rest h.source.1 h.spelled.other));
  }

  -- the second is written as that of b
  pub before_full : (b : B) → There (u b) → Full p w → Full (Before p q) (λ a. joined (w a) (u b))
  before_full b there P = record {
    written = λ ts a h. there_both (w a) (u b) (subst (λ z. There (w z)) (sym h.value) (P.written h.spelled.front h.source.0 h.spelled.one)) there;
  }

module _ {A B : Type 0} (f : A → B) (back : B → Option A) (p : List Token → A → Type 0) (w : A → Option (List Token)) where
  -- where what is spelled is written of some part
  pub made_full : ((ts : List Token) (a : A) → p ts a → There (written_if w (back (f a)))) → Full (Mapped f p) (λ b. written_if w (back b))
  made_full there = record { written = λ ts b h. subst (λ z. There (written_if w (back z))) (sym h.value) (there ts h.source h.spelled) }

  -- where it is written of the part that was spelled
  pub mapped_full : ((a : A) → back (f a) ≡ Some a) → Full p w → Full (Mapped f p) (λ b. written_if w (back b))
  mapped_full again P = made_full (λ ts a h. there_of w (back (f a)) a (again a) (P.written ts a h))

module _ {A : Type 0} (p q : List Token → A → Type 0) (w u : A → Option (List Token)) where
  pub either_full : Full p w → Full q u → Full (Either p q) (λ a. or_else (w a) (u a))
  either_full P Q = record { written = λ ts a h. elim h [ inl x ↦ there_first (w a) (u a) (P.written ts a x) | inr x ↦ there_last (w a) (u a) (Q.written ts a x) ] }

module _ {A : Type 0} {hp mp : List Head} (P : Rule A hp mp false) where
  pub perhaps_full : Full P.spells P.prints.writes → Full (Perhaps P.spells) (perhaps_writes P.spells P.prints)
  perhaps_full F = record { written = go }
    where
      go : (ts : List Token) (a : Option A) → Perhaps P.spells ts a → There (perhaps_writes P.spells P.prints a)
      go ts None h = tt
      go ts (Some a) h = F.written ts a h

  pub many_full : Full P.spells P.prints.writes → Full (Many P.spells) (many_writes P.spells P.prints)
  many_full F = record { written = go }
    where
      go : (ts : List Token) (xs : List A) → Many P.spells ts xs → There (many_writes P.spells P.prints xs)
      go ts [] h = tt
      go ts (x ∷ xs) h = there_both (P.prints.writes x) (many_writes P.spells P.prints xs) (F.written h.0 x h.3) (go h.1 xs h.4)

module _ {A : Type 0} (test : A → Bool) (p : List Token → A → Type 0) (w : A → Option (List Token)) where
  pub checked_full : Full p w → Full (Checked test p) (λ a. if test a then w a else None)
  checked_full P = record { written = λ ts a h. there_if (test a) (w a) h.passes (P.written ts a h.spelled) }

pub comma_full : {A : Type 0} {hp mp : List Head} (P : Rule A hp mp false) → Full P.spells P.prints.writes → Full (with_comma P).spells (with_comma P).prints.writes
unfolding with_comma
comma_full P h = after_full (only (Token.Symbol Symbol.Comma)) (λ z. Some (Token.Symbol Symbol.Comma ∷ [])) P.spells P.prints.writes tt tt h

pub listed_full : {A : Type 0} {hp : List Head} (P : Rule A hp [] false) → Full P.spells P.prints.writes → Full (listed P).spells (listed P).prints.writes
listed_full P h =
    mapped_full (λ r. r.0 ∷ r.1) as_list _ _ (λ r. refl)
    (both_full P.spells P.prints.writes (Many (with_comma P).spells) (many_writes (with_comma P).spells (with_comma P).prints) h (many_full (with_comma P) (comma_full P h)))

-- ---- names

folded_again : (w : List ℕ) → folded (folded w) ≡ folded w
folded_again [] = refl
folded_again (c ∷ cs) = rw (lowercase-lowercase c, folded_again cs) refl

folded_length : (w : List ℕ) → length (folded w) ≡ length w
folded_length [] = refl
folded_length (c ∷ cs) = let h = folded_length cs in omega (arith, h)

letter_folded : (c : ℕ) → is_letter c ≡ true → is_letter (to_ascii_lowercase c) ≡ true
letter_folded c h = grind arith

character_folded : (c : ℕ) → is_letter_or_digit c ≡ true → is_letter_or_digit (to_ascii_lowercase c) ≡ true
character_folded c h = grind arith

all_folded : (w : List ℕ) → list_all is_letter_or_digit w ≡ true → list_all is_letter_or_digit (folded w) ≡ true
all_folded [] h = refl
all_folded (c ∷ cs) h = let x = and_parts (is_letter_or_digit c) (list_all is_letter_or_digit cs) h in rw (character_folded c x.0, all_folded cs x.1) refl

both_true : (a b : Bool) → a ≡ true → b ≡ true → (a && b) ≡ true
both_true true b h k = k
both_true false b h k = cc

-- the text of a name is one in lower case too
name_text_folded : (w : List ℕ) → is_name_text w ≡ true → is_name_text (folded w) ≡ true
name_text_folded [] h = h
name_text_folded (c ∷ cs) h = let x = and_parts (is_letter c) (list_all is_letter_or_digit (c ∷ cs)) h in both_true (is_letter (to_ascii_lowercase c)) (list_all is_letter_or_digit (folded (c ∷ cs))) (letter_folded c x.0) (all_folded (c ∷ cs) x.1)

not_true : (b : Bool) → not b ≡ true → b ≡ false
not_true true h = cc
not_true false h = refl

if_some : {A : Type 0} (b : Bool) (x y : A) → (if◌then◌else◌ {A = Option A} b (Some x) None) ≡ Some y → (b ≡ true) × (x ≡ y)
if_some true x y h = (refl, some_is x y h)
if_some false x y h = cc

-- the name of a word is its own name
named_again : (w a : List ℕ) → values.named w ≡ Some a → values.name_of (Token.Word a) ≡ Some a
named_again w a h =
    let x = if_some ((is_name_text w && not (reserved (folded w))) && nat_le (length w) 63) (folded w) a h in
    let y = and_parts (is_name_text w && not (reserved (folded w))) (nat_le (length w) 63) x.0 in
    let z = and_parts (is_name_text w) (not (reserved (folded w))) y.0 in
    subst (λ n. values.name_of (Token.Word n) ≡ Some n) x.1
    (rw (folded_again w, not_true (reserved (folded w)) z.1, name_text_folded w z.0, folded_length w, y.1) refl)

name_found : (token : Token) (a : List ℕ) → values.name_of token ≡ Some a → There (alone_if (back.as_name a))
name_found (Token.Word w) a h = go (reserved w) h
  where
    go : (b : Bool) → if◌then◌else◌ {A = Option (List ℕ)} b None (values.named w) ≡ Some a → There (alone_if (back.as_name a))
    go true k = cc
    go false k =
        let same : bytes_eq a a ≡ true = (bytes_eq-Decides a a).1 refl in
        subst (λ o. There (alone_if (back.word_if o a))) (sym (named_again w a k)) (subst (λ b. There (alone_if (given_if b (Token.Word a)))) (sym same) tt)
name_found _ a h = cc

pub name_full : Full g.name.spells g.name.prints.writes
unfolding g.name
name_full = one_full values.name_of back.as_name name_found

pub names_full : Full g.names.spells g.names.prints.writes
unfolding g.names
names_full = listed_full g.name name_full

pub distinct_full : Full g.distinct_names.spells g.distinct_names.prints.writes
unfolding g.distinct_names
distinct_full = checked_full values.are_distinct g.names.spells g.names.prints.writes names_full

-- ---- literals and items

-- a word that stands for a value
pub stands_full : {A : Type 0} (T : Telling A) (x : A) (p : List Token → Unit {0} → Type 0) (w : Unit {0} → Option (List Token)) → T.are_same x x ≡ true → There (w tt)
    → Full (Mapped (λ _. x) p) (λ y. written_if w (given_if (T.are_same y x) tt))
stands_full T x p w same there = made_full (λ _. x) (λ y. given_if (T.are_same y x) tt) p w (λ ts a h. subst (λ b. There (written_if w (given_if b tt))) (sym same) there)

constant_full : Full g.constant.spells g.constant.prints.writes
unfolding g.constant
constant_full = either_full _ _ _ _ (stands_full back.constants (Value.Bool true) _ _ refl tt) (either_full _ _ _ _ (stands_full back.constants (Value.Bool false) _ _ refl tt) (stands_full back.constants Value.Null _ _ refl tt))

text_full : Full g.text.spells g.text.prints.writes
unfolding g.text
text_full = mapped_full Value.Text back.as_text _ _ (λ x. refl) (one_full values.text_of back.as_quoted (λ token x h. tt))

below_zero : (n : ℕ) → negsuc n ≡ pos 0 -ℤ pos (suc n)
below_zero n = let t : nat_lt 0 (suc n) ≡ true = lt-ltb 0 (suc n) (omega arith) in simp (unary_clauses, t) refl

number_there : (a : Option (Unit {0}) × ℕ) → values.in_range a ≡ true → There (g.number.prints.writes (values.signed a))
unfolding g.number g.digits
number_there (None, n) h = there_if (nat_le n (2 ^ 63 - 1)) (Some (Token.Number n ∷ [])) h tt
number_there (Some x, zero) h = tt
number_there (Some x, suc n) h = subst (λ z. There (g.number.prints.writes (Value.Int z))) (below_zero n) (there_if (nat_le (suc n) (2 ^ 63)) (Some (Token.Symbol Symbol.Minus ∷ Token.Number (suc n) ∷ [])) h tt)

number_full : Full g.number.spells g.number.prints.writes
unfolding g.number
number_full = record { written = λ ts x h. subst (λ z. There (g.number.prints.writes z)) (sym h.value) (number_there h.source h.spelled.passes) }

literal_full : Full g.literal.spells g.literal.prints.writes
unfolding g.literal
literal_full = either_full _ _ _ _ constant_full (either_full _ _ _ _ text_full number_full)

dot_full : Full g.behind_dot.spells g.behind_dot.prints.writes
unfolding g.behind_dot
dot_full = perhaps_full (after (sign Symbol.Dot) g.name refl) (after_full (only (Token.Symbol Symbol.Dot)) (λ z. Some (Token.Symbol Symbol.Dot ∷ [])) g.name.spells g.name.prints.writes tt tt name_full)

column_full : Full g.column.spells g.column.prints.writes
unfolding g.column
column_full = mapped_full values.column_name_of back.as_column_name _ _ again (both_full g.name.spells g.name.prints.writes g.behind_dot.spells g.behind_dot.prints.writes name_full dot_full)
  where
    again : (a : List ℕ × Option (List ℕ)) → back.as_column_name (values.column_name_of a) ≡ Some a
    again (name, None) = refl
    again (qualifier, Some name) = refl

pub item_full : Full g.item.spells g.item.prints.writes
unfolding g.item
item_full = either_full _ _ _ _ (mapped_full e.Literal back.as_literal g.literal.spells g.literal.prints.writes (λ x. refl) literal_full)
    (either_full _ _ _ _ (mapped_full e.Column back.as_column g.column.spells g.column.prints.writes (λ x. refl) column_full)
    (mapped_full (λ _. e.CurrentUser) back.as_user _ _ (λ x. refl) (only_full (Token.Word (codes "current_user")))))

-- ---- what a SELECT selects, and its table

pub item_list_full : Full g.item_list.spells g.item_list.prints.writes
unfolding g.item_list
item_list_full = mapped_full (λ r. r.0 ∷ r.1) as_list _ _ (λ r. refl)
    (both_full g.item.spells g.item.prints.writes (Many (with_comma g.item).spells) (many_writes (with_comma g.item).spells (with_comma g.item).prints) item_full
    (many_full (with_comma g.item) (comma_full g.item item_full)))

pub items_full : Full g.items.spells g.items.prints.writes
unfolding g.items g.count g.selected_items
items_full = record {
  written = λ ts x h. elim h [
    | inl y ↦ subst (λ z. There (g.items.prints.writes z)) (sym y.value) tt
    | inr y ↦ elim y [
      | inl z ↦ subst (λ z. There (g.items.prints.writes z)) (sym z.value) tt
      | inr z ↦ subst (λ z. There (g.items.prints.writes z)) (sym z.value) (item_list_full.written ts z.source z.spelled)
    ]
  ];
}

pub returned_full : Full g.returned.spells g.returned.prints.writes
unfolding g.returned
returned_full = record {
  written = λ ts x h. elim h [
    | inl y ↦ subst (λ z. There (g.returned.prints.writes z)) (sym y.value) tt
    | inr y ↦ subst (λ z. There (g.returned.prints.writes z)) (sym y.value) (item_list_full.written ts y.source y.spelled)
  ];
}

pub returning_full : Full g.returning.spells g.returning.prints.writes
unfolding g.returning
returning_full = perhaps_full (after (word (codes "returning")) g.returned refl) (after_full (only (Token.Word (codes "returning"))) (λ z. Some (Token.Word (codes "returning") ∷ [])) g.returned.spells g.returned.prints.writes tt tt returned_full)

pub columns_full : Full g.columns_if_any.spells g.columns_if_any.prints.writes
unfolding g.columns_if_any
columns_full = perhaps_full (in_parentheses g.distinct_names refl)
    (after_full (only (Token.Symbol Symbol.LParen)) (λ z. Some (Token.Symbol Symbol.LParen ∷ [])) (Before g.distinct_names.spells (only (Token.Symbol Symbol.RParen))) (λ x. joined (g.distinct_names.prints.writes x) (Some (Token.Symbol Symbol.RParen ∷ []))) tt tt
    (before_full g.distinct_names.spells g.distinct_names.prints.writes (only (Token.Symbol Symbol.RParen)) (λ z. Some (Token.Symbol Symbol.RParen ∷ [])) tt tt distinct_full))

alias_full : Full g.alias.spells g.alias.prints.writes
unfolding g.alias
alias_full = after_full (Perhaps (only (Token.Word (codes "as")))) (λ z. Some (Token.Word (codes "as") ∷ [])) g.name.spells g.name.prints.writes (Some tt) tt name_full

pub from_full : Full g.from_table.spells g.from_table.prints.writes
unfolding g.from_table g.alias_if_any
from_full = after_full (only (Token.Word (codes "from"))) (λ z. Some (Token.Word (codes "from") ∷ [])) (Both g.name.spells (Perhaps g.alias.spells)) (λ r. joined (g.name.prints.writes r.0) (perhaps_writes g.alias.spells g.alias.prints r.1)) tt tt
    (both_full g.name.spells g.name.prints.writes (Perhaps g.alias.spells) (perhaps_writes g.alias.spells g.alias.prints) name_full (perhaps_full g.alias alias_full))
