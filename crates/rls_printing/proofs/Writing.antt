-- What the grammar writes for an expression are the words of which it is printed.
use Rattle.std.{proofs.Common.◌≡◌, proofs.Common.ℕ, proofs.Common.zero, proofs.Common.suc, proofs.Common.Bool, proofs.Common.true, proofs.Common.false, proofs.Common.◌&&◌, proofs.Common.not, proofs.Common.length, proofs.Common.nat_le, proofs.Common.if◌then◌else◌, proofs.Common.List, proofs.Common.[], proofs.Common.◌∷◌, proofs.Common.◌++◌, proofs.Common.Option, proofs.Common.Some, proofs.Common.None, proofs.Common.refl, proofs.Common.ap, proofs.Common.sym, proofs.Common.◌∙◌, proofs.Common.inl, proofs.Common.inr, proofs.Common.append_assoc, proofs.Common.append-nil, proofs.Common.subst, proofs.Common.◌-◌, proofs.Common.◌^◌, proofs.lemmas.Slice.Eq.bytes_eq-Decides, specs.Prelude.pos, specs.Prelude.negsuc, specs.Prelude.codes, specs.Str.bytes_eq}
use Rattle.rls_value.specs.{Names.reserved, Names.is_name_text, Names.folded, declared.value.Value.Value}
use Rattle.rls_expr.specs.{Terms.Term, Terms.Terms, Terms.Query, Terms.Literal, Terms.Column, Terms.Var, Terms.CurrentUser, Terms.Compare, Terms.And, Terms.Or, Terms.Not, Terms.IsNull, Terms.IsNotNull, Terms.InList, Terms.NotInList, Terms.Exists, Terms.InSubquery, Terms.NotInSubquery, Terms.Scalar, Terms.Sum, Terms.End, Terms.More, Terms.Select, Terms.terms_of, Terms.maybe_term, declared.column_name.ColumnName.ColumnName, declared.expr.FromItem.FromItem, declared.expr.Comparison.Comparison, declared.expr.Sign.Sign, declared.expr.Selects.Selects}
use Rattle.rls_statement.specs.declared.statement.Selected.{Selected}
use Rattle.rls_text.specs.{declared.token.Symbol.Symbol, declared.token.Token.Token, Cut.Cut, Cutting.tree_of, FirstSets.expr_heads, FirstSets.expr_more, Rule.with_comma, Rule.given_if, Values.Choices, Values.SelectParts, Writes.Writer, Writes.joined, Writes.or_else, Writes.written_if, Writes.alone_if, Writes.some_is, Writes.many_writes, Writes.perhaps_writes}
use Rattle.rls_text.specs.Cut as cut
use Rattle.rls_text.specs.Grammar as g
use Rattle.rls_text.specs.WaysBack as back
use Rattle.rls_printing.specs.ExprForms as form
use Rattle.rls_printing.specs.StatementForms as sform
use Rattle.rls_printing.specs.{OutputTokens.OutputToken, OutputTokens.Word, OutputTokens.Qualified, OutputTokens.Marked, OutputTokens.tokens_read_of, OutputTokens.tokens_of, OutputTokens.word_token, declared.buffer.Mark.Mark}

-- what is written, if anything is, are the tokens of the words
abbrev pub HasTokens : Option (List Token) → List OutputToken → Type 0
HasTokens o ps = (ts : List Token) → o ≡ Some ts → tokens_of ps ≡ Some ts

pub none_tells : (ps : List OutputToken) → HasTokens None ps
none_tells ps ts h = cc

pub both_told : (ps qs : List OutputToken) (x y : List Token) → tokens_of ps ≡ Some x → tokens_of qs ≡ Some y → tokens_of (ps ++ qs) ≡ Some (x ++ y)
both_told [] qs x y h k = k ∙ ap (λ z. Some (z ++ y)) (some_is [] x h)
both_told (p ∷ ps) qs x y h k = go (tokens_read_of p) refl (tokens_of ps) refl h (λ z e. both_told ps qs z y e k)
  where
    go : (o : Option (List Token)) → tokens_read_of p ≡ o → (u : Option (List Token)) → tokens_of ps ≡ u → joined o u ≡ Some x
        → ((z : List Token) → tokens_of ps ≡ Some z → tokens_of (ps ++ qs) ≡ Some (z ++ y)) → joined (tokens_read_of p) (tokens_of (ps ++ qs)) ≡ Some (x ++ y)
    go None a u b i again = cc
    go (Some f) a None b i again = cc
    go (Some f) a (Some z) b i again = rw (a, again z b) (ap (λ e. Some e) (sym (append_assoc f z y)) ∙ ap (λ e. Some (e ++ y)) (some_is (f ++ z) x i))

pub both_tell : (o u : Option (List Token)) (ps qs : List OutputToken) → HasTokens o ps → HasTokens u qs → HasTokens (joined o u) (ps ++ qs)
both_tell None u ps qs h k ts e = cc
both_tell (Some x) None ps qs h k ts e = cc
both_tell (Some x) (Some y) ps qs h k ts e = both_told ps qs x y (h x refl) (k y refl) ∙ e

pub either_tells : (o u : Option (List Token)) (ps : List OutputToken) → HasTokens o ps → HasTokens u ps → HasTokens (or_else o u) ps
either_tells None u ps h k = k
either_tells (Some x) u ps h k = h

-- a test that fails writes nothing
pub if_tells : (b : Bool) (o : Option (List Token)) (ps : List OutputToken) → HasTokens o ps → HasTokens (if b then o else None) ps
if_tells true o ps h = h
if_tells false o ps h = none_tells ps

pub enclosed_tells : (o : Option (List Token)) (ps : List OutputToken) → HasTokens o ps → HasTokens (joined (Some (Token.Symbol Symbol.LParen ∷ [])) (joined o (Some (Token.Symbol Symbol.RParen ∷ [])))) (form.enclosed ps)
enclosed_tells o ps h = both_tell (Some (Token.Symbol Symbol.LParen ∷ [])) (joined o (Some (Token.Symbol Symbol.RParen ∷ []))) (Marked Mark.Open ∷ []) (ps ++ Marked Mark.Close ∷ []) (λ ts e. e) (both_tell o (Some (Token.Symbol Symbol.RParen ∷ [])) ps (Marked Mark.Close ∷ []) h (λ ts e. e))

-- ---- names and literals

bytes_are : (a b : List ℕ) → bytes_eq a b ≡ true → a ≡ b
bytes_are a b h = (bytes_eq-Decides a b).0 h

pub name_tells : (x : List ℕ) → HasTokens (g.name.prints.writes x) (Word x ∷ [])
unfolding g.name
name_tells x ts h = go (reserved x) (is_name_text x) refl (reserved (folded x)) (nat_le (length x) 63) h
  where
    go : (r a : Bool) → is_name_text x ≡ a → (f l : Bool)
        → alone_if (back.word_if (if r then None else (if (a && not f) && l then Some (folded x) else None)) x) ≡ Some ts → tokens_of (Word x ∷ []) ≡ Some ts
    go true a k f l i = cc
    go false false k f l i = cc
    go false true k true l i = cc
    go false true k false false i = cc
    go false true k false true i = told (bytes_eq (folded x) x) refl i
      where
        told : (b : Bool) → bytes_eq (folded x) x ≡ b → alone_if (given_if b (Token.Word x)) ≡ Some ts → tokens_of (Word x ∷ []) ≡ Some ts
        told true e j = rw k (ap (λ z. Some (Token.Word z ∷ [])) (bytes_are (folded x) x e) ∙ j)
        told false e j = cc

literal_tells : (x : Value) → HasTokens (g.literal.prints.writes x) (form.literal x ∷ [])
unfolding g.literal g.constant g.text g.number g.digits
literal_tells Value.Null ts h = h
literal_tells (Value.Bool true) ts h = h
literal_tells (Value.Bool false) ts h = h
literal_tells (Value.Text x) ts h = h
literal_tells (Value.Int (pos n)) ts h = go (nat_le n (2 ^ 63 - 1)) h
  where
    go : (b : Bool) → (if b then Some (Token.Number n ∷ []) else None) ≡ Some ts → joined (if b then Some (Token.Number n ∷ []) else None) (Some []) ≡ Some ts
    go true i = i
    go false i = cc
literal_tells (Value.Int (negsuc n)) ts h = go (nat_le (suc n) (2 ^ 63)) h
  where
    go : (b : Bool) → (if b then Some (Token.Symbol Symbol.Minus ∷ Token.Number (suc n) ∷ []) else None) ≡ Some ts → joined (if b then Some (Token.Symbol Symbol.Minus ∷ Token.Number (suc n) ∷ []) else None) (Some []) ≡ Some ts
    go true i = i
    go false i = cc

word_is : (x : List ℕ) (ts : List Token) → tokens_of (Word x ∷ []) ≡ Some ts → word_token x ≡ Some ts
word_is x ts h = go (is_name_text x) h
  where
    go : (b : Bool) → joined (if b then Some (Token.Word (folded x) ∷ []) else None) (Some []) ≡ Some ts → (if b then Some (Token.Word (folded x) ∷ []) else None) ≡ Some ts
    go true i = i
    go false i = cc

qualified_tells : (q n : List ℕ) → HasTokens (joined (g.name.prints.writes q) (joined (Some (Token.Symbol Symbol.Dot ∷ [])) (g.name.prints.writes n))) (Qualified q n ∷ [])
qualified_tells q n ts h = go (g.name.prints.writes q) refl (g.name.prints.writes n) refl h
  where
    go : (o : Option (List Token)) → g.name.prints.writes q ≡ o → (u : Option (List Token)) → g.name.prints.writes n ≡ u → joined o (joined (Some (Token.Symbol Symbol.Dot ∷ [])) u) ≡ Some ts
        → joined (joined (word_token q) (joined (Some (Token.Symbol Symbol.Dot ∷ [])) (word_token n))) (Some []) ≡ Some ts
    go None a u b i = cc
    go (Some x) a None b i = cc
    go (Some x) a (Some y) b i = rw (word_is q x (name_tells q x a), word_is n y (name_tells n y b)) (ap (λ z. Some z) (append-nil (x ++ Token.Symbol Symbol.Dot ∷ y)) ∙ i)

column_tells : (x : ColumnName) → HasTokens (g.column.prints.writes x) (form.named x.qualifier x.name ∷ [])
unfolding g.column g.behind_dot
column_tells x ts h = go x.qualifier x.name h
  where
    go : (q : Option (List ℕ)) (n : List ℕ) → g.column.prints.writes record { qualifier = q; name = n } ≡ Some ts → tokens_of (form.named q n ∷ []) ≡ Some ts
    go None n i = both_tell (g.name.prints.writes n) (Some []) (Word n ∷ []) [] (name_tells n) (λ us e. e) ts i
    go (Some q) n i = qualified_tells q n ts i

item_tells : (x : Term) → HasTokens (g.item.prints.writes x) (form.expr x)
unfolding g.item
item_tells (Literal x) = either_tells (g.literal.prints.writes x) None (form.literal x ∷ []) (literal_tells x) (none_tells (form.literal x ∷ []))
item_tells (Column x) = either_tells (g.column.prints.writes x) None (form.named x.qualifier x.name ∷ []) (column_tells x) (none_tells (form.named x.qualifier x.name ∷ []))
item_tells CurrentUser = λ ts e. e
item_tells _ = λ ts e. cc

-- ---- what is selected

more_items_tell : (xs : List Term) → HasTokens (many_writes (with_comma g.item).spells (with_comma g.item).prints xs) (form.more (terms_of xs))
unfolding with_comma
more_items_tell [] = λ ts e. e
more_items_tell (x ∷ xs) = both_tell (joined (Some (Token.Symbol Symbol.Comma ∷ [])) (g.item.prints.writes x)) (many_writes (with_comma g.item).spells (with_comma g.item).prints xs) (Marked Mark.Comma ∷ form.expr x) (form.more (terms_of xs))
    (both_tell (Some (Token.Symbol Symbol.Comma ∷ [])) (g.item.prints.writes x) (Marked Mark.Comma ∷ []) (form.expr x) (λ ts e. e) (item_tells x)) (more_items_tell xs)

pub item_list_tells : (xs : List Term) → HasTokens (g.item_list.prints.writes xs) (form.list (terms_of xs))
unfolding g.item_list
item_list_tells [] = λ ts e. cc
item_list_tells (x ∷ xs) = both_tell (g.item.prints.writes x) (many_writes (with_comma g.item).spells (with_comma g.item).prints xs) (form.expr x) (form.more (terms_of xs)) (item_tells x) (more_items_tell xs)

pub items_tell : (x : Selected) → HasTokens (g.items.prints.writes x) (sform.selected_items x)
unfolding g.items g.count g.selected_items
items_tell Selected.All = λ ts e. e
items_tell (Selected.Items xs) = item_list_tells xs
items_tell Selected.Count = λ ts e. e

pub from_tells : (table : List ℕ) (a : Option (List ℕ)) → HasTokens (g.from_table.prints.writes (table, a)) (form.from_ table a)
unfolding g.from_table g.alias_if_any g.alias
from_tells table None = both_tell (Some (Token.Word (codes "from") ∷ [])) (joined (g.name.prints.writes table) (Some [])) (Word (codes "FROM") ∷ []) (Word table ∷ []) (λ ts e. e)
    (both_tell (g.name.prints.writes table) (Some []) (Word table ∷ []) [] (name_tells table) (λ ts e. e))
from_tells table (Some x) = both_tell (Some (Token.Word (codes "from") ∷ [])) (joined (g.name.prints.writes table) (joined (Some (Token.Word (codes "as") ∷ [])) (g.name.prints.writes x))) (Word (codes "FROM") ∷ []) (Word table ∷ Word (codes "AS") ∷ Word x ∷ []) (λ ts e. e)
    (both_tell (g.name.prints.writes table) (joined (Some (Token.Word (codes "as") ∷ [])) (g.name.prints.writes x)) (Word table ∷ []) (Word (codes "AS") ∷ Word x ∷ []) (name_tells table)
    (both_tell (Some (Token.Word (codes "as") ∷ [])) (g.name.prints.writes x) (Word (codes "AS") ∷ []) (Word x ∷ []) (λ ts e. e) (name_tells x)))

-- ---- expressions

-- between parentheses
abbrev pub parens : Option (List Token) → Option (List Token)
parens o = joined (Some (Token.Symbol Symbol.LParen ∷ [])) (joined o (Some (Token.Symbol Symbol.RParen ∷ [])))

-- something is written
abbrev pub There : Option (List Token) → Type 0
There None = ⊥
There (Some x) = Unit {0}

guarded : (o u : Option (List Token)) (ps : List OutputToken) → HasTokens o ps → (There u → There o) → HasTokens (or_else o (parens u)) ps
guarded (Some x) u ps h k = h
guarded None None ps h k = λ ts e. cc
guarded None (Some y) ps h k = absurd (k tt)

parens_or : (o u : Option (List Token)) → parens (or_else o u) ≡ or_else (parens o) (parens u)
parens_or None u = refl
parens_or (Some x) u = refl

comparison_tells : (how : Comparison) → HasTokens (g.comparison.prints.writes how) (Marked (form.comparison how) ∷ [])
unfolding g.comparison
comparison_tells Comparison.Equal = λ ts e. e
comparison_tells Comparison.NotEqual = λ ts e. e
comparison_tells Comparison.Less = λ ts e. e
comparison_tells Comparison.LessOrEqual = λ ts e. e
comparison_tells Comparison.Greater = λ ts e. e
comparison_tells Comparison.GreaterOrEqual = λ ts e. e

sign_tells : (x : Sign) → HasTokens (g.part_sign.prints.writes x) (Marked (form.sign x) ∷ [])
unfolding g.part_sign
sign_tells Sign.Plus = λ ts e. e
sign_tells Sign.Minus = λ ts e. e

not_tells : HasTokens (g.nots.prints.writes 1) (Word (codes "NOT") ∷ [])
unfolding g.nots
not_tells = λ ts e. e

null_tells : HasTokens (many_writes g.null_test.spells g.null_test.prints (None ∷ [])) (Word (codes "IS") ∷ Word (codes "NULL") ∷ [])
unfolding g.null_test
null_tells = λ ts e. e

not_null_tells : HasTokens (many_writes g.null_test.spells g.null_test.prints (Some tt ∷ [])) (Word (codes "IS") ∷ Word (codes "NOT") ∷ Word (codes "NULL") ∷ [])
unfolding g.null_test
not_null_tells = λ ts e. e

in_tells : HasTokens (g.in_word.prints.writes None) (Word (codes "IN") ∷ [])
unfolding g.in_word
in_tells = λ ts e. e

not_in_tells : HasTokens (g.in_word.prints.writes (Some tt)) (Word (codes "NOT") ∷ Word (codes "IN") ∷ [])
unfolding g.in_word
not_in_tells = λ ts e. e

module _ (inner : Cut tree_of expr_heads expr_more false) where
  abbrev pub w : Term → Option (List Token)
  w = inner.rule.prints.writes

  abbrev pub P : Term → Option (List Token)
  P = (g.prim inner).rule.prints.writes

  -- what stands alone, without parentheses of an operand
  abbrev pub alone : Term → Option (List Token)
  alone (Literal x) = g.item.prints.writes (Literal x)
  alone (Column x) = g.item.prints.writes (Column x)
  alone CurrentUser = g.item.prints.writes CurrentUser
  alone (Exists q) = (g.exists inner).rule.prints.writes (Exists q)
  alone (Scalar q) = parens ((g.scalar inner).rule.prints.writes (Scalar q))
  alone _ = None

  -- each as it is written at its own level
  abbrev pub own : Term → Option (List Token)
  own (Compare how a b) = joined (P a) (joined (g.comparison.prints.writes how) (P b))
  own (And ts) = written_if (λ r. joined (P r.0) (many_writes (g.and_next inner).rule.spells (g.and_next inner).rule.prints r.1)) (back.as_operands ts)
  own (Or ts) = written_if (λ r. joined (P r.0) (many_writes (g.or_next inner).rule.spells (g.or_next inner).rule.prints r.1)) (back.as_operands ts)
  own (Not a) = joined (g.nots.prints.writes 1) (P a)
  own (IsNull a) = joined (P a) (many_writes g.null_test.spells g.null_test.prints (None ∷ []))
  own (IsNotNull a) = joined (P a) (many_writes g.null_test.spells g.null_test.prints (Some tt ∷ []))
  own (InList a ts) = joined (P a) ((g.in_choices inner).rule.prints.writes (None, inl (back.list_of ts)))
  own (NotInList a ts) = joined (P a) ((g.in_choices inner).rule.prints.writes (Some tt, inl (back.list_of ts)))
  own (InSubquery a q) = written_if (λ r. joined (P r.0) (perhaps_writes (g.in_choices inner).rule.spells (g.in_choices inner).rule.prints r.1)) (back.behind_in a None (back.as_query q))
  own (NotInSubquery a q) = written_if (λ r. joined (P r.0) (perhaps_writes (g.in_choices inner).rule.spells (g.in_choices inner).rule.prints r.1)) (back.behind_in a (Some tt) (back.as_query q))
  own (Sum xs ts) = written_if (λ r. joined (P r.0) (many_writes (g.sum_next inner).rule.spells (g.sum_next inner).rule.prints r.1)) (back.as_sum (Sum xs ts))
  own x = alone x

  pub prim_is : (x : Term) → P x ≡ or_else (alone x) (parens (w x))
  unfolding g.prim g.enclosed g.item g.exists g.scalar
  prim_is (Scalar q) = parens_or ((g.scalar inner).rule.prints.writes (Scalar q)) (w (Scalar q))
  prim_is _ = refl

  pub expr_is : (x : Term) → (g.or inner).rule.prints.writes x ≡ or_else (own x) (parens (w x))
  unfolding g.or g.and g.not_ g.is g.cmp g.memb g.sum g.prim g.enclosed g.item g.exists g.scalar
  expr_is (Scalar q) = parens_or ((g.scalar inner).rule.prints.writes (Scalar q)) (w (Scalar q))
  expr_is _ = refl

module _ (inner : Cut tree_of expr_heads expr_more false) (ih : (x : Term) → HasTokens (inner.rule.prints.writes x) (form.expr x)) where
  pub condition_tells : (x : Option Term) → HasTokens ((g.condition inner).rule.prints.writes x) (form.where_ (maybe_term x))
  unfolding g.condition
  condition_tells None = λ ts e. e
  condition_tells (Some x) = both_tell (Some (Token.Word (codes "where") ∷ [])) (inner.rule.prints.writes x) (Word (codes "WHERE") ∷ []) (form.expr x) (λ ts e. e) (ih x)

  pub select_tells : (x : Selected) (table : List ℕ) (a : Option (List ℕ)) (y : Option Term)
      → HasTokens ((g.select_parts inner).rule.prints.writes (x, ((table, a), y))) (Word (codes "SELECT") ∷ (sform.selected_items x ++ (form.from_ table a ++ form.where_ (maybe_term y))))
  unfolding g.select_parts
  select_tells x table a y =
      both_tell (Some (Token.Word (codes "select") ∷ [])) (joined (g.items.prints.writes x) (joined (g.from_table.prints.writes (table, a)) ((g.condition inner).rule.prints.writes y)))
      (Word (codes "SELECT") ∷ []) (sform.selected_items x ++ (form.from_ table a ++ form.where_ (maybe_term y))) (λ ts e. e)
      (both_tell (g.items.prints.writes x) (joined (g.from_table.prints.writes (table, a)) ((g.condition inner).rule.prints.writes y)) (sform.selected_items x) (form.from_ table a ++ form.where_ (maybe_term y)) (items_tell x)
      (both_tell (g.from_table.prints.writes (table, a)) ((g.condition inner).rule.prints.writes y) (form.from_ table a) (form.where_ (maybe_term y)) (from_tells table a) (condition_tells y)))

  -- the items of a subquery, as it holds them
  items_query : (from : FromItem) (items condition : Terms) (y : Option Term) → maybe_term y ≡ condition
      → HasTokens ((g.select_parts inner).rule.prints.writes (Selected.Items (back.list_of items), ((from.table, from.alias), y))) (form.query (Select from [] Selects.Items items condition))
  items_query from items condition y e =
      subst (λ z. HasTokens ((g.select_parts inner).rule.prints.writes (Selected.Items (back.list_of items), ((from.table, from.alias), y))) (Word (codes "SELECT") ∷ (form.list z ++ (form.from_ from.table from.alias ++ form.where_ condition)))) (back.terms_back items)
      (subst (λ z. HasTokens ((g.select_parts inner).rule.prints.writes (Selected.Items (back.list_of items), ((from.table, from.alias), y))) (Word (codes "SELECT") ∷ (form.list (terms_of (back.list_of items)) ++ (form.from_ from.table from.alias ++ form.where_ z)))) e
      (select_tells (Selected.Items (back.list_of items)) from.table from.alias y))

  query_tells : (q : Query) → HasTokens (written_if (g.select_parts inner).rule.prints.writes (back.as_query q)) (form.query q)
  query_tells (Select from [] Selects.All End End) = select_tells Selected.All from.table from.alias None
  query_tells (Select from [] Selects.All End (More x End)) = select_tells Selected.All from.table from.alias (Some x)
  query_tells (Select from [] Selects.Count End End) = select_tells Selected.Count from.table from.alias None
  query_tells (Select from [] Selects.Count End (More x End)) = select_tells Selected.Count from.table from.alias (Some x)
  query_tells (Select from [] Selects.Items items End) = items_query from items End None refl
  query_tells (Select from [] Selects.Items items (More x End)) = items_query from items (More x End) (Some x) refl
  query_tells _ = λ ts e. cc

  more_parts_tell : (xs : Terms) → HasTokens (many_writes (cut.with_comma inner).rule.spells (cut.with_comma inner).rule.prints (back.list_of xs)) (form.more xs)
  unfolding cut.with_comma
  more_parts_tell End = λ ts e. e
  more_parts_tell (More x xs) =
      both_tell (joined (Some (Token.Symbol Symbol.Comma ∷ [])) (inner.rule.prints.writes x)) (many_writes (cut.with_comma inner).rule.spells (cut.with_comma inner).rule.prints (back.list_of xs)) (Marked Mark.Comma ∷ form.expr x) (form.more xs)
      (both_tell (Some (Token.Symbol Symbol.Comma ∷ [])) (inner.rule.prints.writes x) (Marked Mark.Comma ∷ []) (form.expr x) (λ ts e. e) (ih x)) (more_parts_tell xs)

  parts_tell : (xs : Terms) → HasTokens ((g.parts inner).rule.prints.writes (back.list_of xs)) (form.list xs)
  unfolding g.parts
  parts_tell End = λ ts e. cc
  parts_tell (More x xs) = both_tell (inner.rule.prints.writes x) (many_writes (cut.with_comma inner).rule.spells (cut.with_comma inner).rule.prints (back.list_of xs)) (form.expr x) (form.more xs) (ih x) (more_parts_tell xs)

  pub tuple_tells : (xs : Terms) → HasTokens ((g.tuple inner).rule.prints.writes (back.list_of xs)) (form.enclosed (form.list xs))
  unfolding g.tuple
  tuple_tells xs = enclosed_tells ((g.parts inner).rule.prints.writes (back.list_of xs)) (form.list xs) (parts_tell xs)

  pub parenthesized_tells : (x : Term) → HasTokens ((g.parenthesized inner).rule.prints.writes x) (form.enclosed (form.expr x))
  unfolding g.parenthesized
  parenthesized_tells x = enclosed_tells (inner.rule.prints.writes x) (form.expr x) (ih x)

  exists_tells : (q : Query) → HasTokens ((g.exists inner).rule.prints.writes (Exists q)) (form.expr (Exists q))
  unfolding g.exists
  exists_tells q = go (back.as_query q) (query_tells q)
    where
      go : (o : Option SelectParts) → HasTokens (written_if (g.select_parts inner).rule.prints.writes o) (form.query q)
          → HasTokens (written_if (λ r. joined (Some (Token.Word (codes "exists") ∷ [])) (parens ((g.select_parts inner).rule.prints.writes r))) o) (Word (codes "EXISTS") ∷ form.enclosed (form.query q))
      go None h = λ ts e. cc
      go (Some r) h = both_tell (Some (Token.Word (codes "exists") ∷ [])) (parens ((g.select_parts inner).rule.prints.writes r)) (Word (codes "EXISTS") ∷ []) (form.enclosed (form.query q)) (λ ts e. e) (enclosed_tells ((g.select_parts inner).rule.prints.writes r) (form.query q) h)

  scalar_tells : (q : Query) → HasTokens (parens ((g.scalar inner).rule.prints.writes (Scalar q))) (form.expr (Scalar q))
  unfolding g.scalar
  scalar_tells q = enclosed_tells (written_if (g.select_parts inner).rule.prints.writes (back.as_query q)) (form.query q) (query_tells q)

  alone_tells : (x : Term) → HasTokens (alone inner x) (form.expr x)
  alone_tells (Literal x) = item_tells (Literal x)
  alone_tells (Column x) = item_tells (Column x)
  alone_tells CurrentUser = item_tells CurrentUser
  alone_tells (Exists q) = exists_tells q
  alone_tells (Scalar q) = scalar_tells q
  alone_tells _ = λ ts e. cc

  -- IN of a list, and of a SELECT
  among_tells : (o : Option (Unit {0})) (ps : List OutputToken) (xs : Terms) → HasTokens (g.in_word.prints.writes o) ps → HasTokens ((g.in_choices inner).rule.prints.writes (o, inl (back.list_of xs))) (ps ++ form.enclosed (form.list xs))
  unfolding g.in_choices g.enclosed_choices g.choices
  among_tells o ps xs h =
      both_tell (g.in_word.prints.writes o) (parens (or_else None ((g.parts inner).rule.prints.writes (back.list_of xs)))) ps (form.enclosed (form.list xs)) h
      (enclosed_tells ((g.parts inner).rule.prints.writes (back.list_of xs)) (form.list xs) (parts_tell xs))

  or_none : (o : Option (List Token)) → or_else o None ≡ o
  or_none None = refl
  or_none (Some x) = refl

  within_tells : (o : Option (Unit {0})) (ps : List OutputToken) (a : Term) (q : Query) → HasTokens (P inner a) (form.bare_if (form.stands_alone a) (form.expr a)) → HasTokens (g.in_word.prints.writes o) ps
      → HasTokens (written_if (λ r. joined (P inner r.0) (perhaps_writes (g.in_choices inner).rule.spells (g.in_choices inner).rule.prints r.1)) (back.behind_in a o (back.as_query q)))
      (form.bare_if (form.stands_alone a) (form.expr a) ++ (ps ++ form.enclosed (form.query q)))
  unfolding g.in_choices g.enclosed_choices g.choices
  within_tells o ps a q operand h = go (back.as_query q) (query_tells q)
    where
      go : (z : Option SelectParts) → HasTokens (written_if (g.select_parts inner).rule.prints.writes z) (form.query q)
          → HasTokens (written_if (λ r. joined (P inner r.0) (perhaps_writes (g.in_choices inner).rule.spells (g.in_choices inner).rule.prints r.1)) (back.behind_in a o z)) (form.bare_if (form.stands_alone a) (form.expr a) ++ (ps ++ form.enclosed (form.query q)))
      go None k = λ ts e. cc
      go (Some r) k =
          both_tell (P inner a) (joined (g.in_word.prints.writes o) (parens (or_else ((g.select_parts inner).rule.prints.writes r) None))) (form.bare_if (form.stands_alone a) (form.expr a)) (ps ++ form.enclosed (form.query q)) operand
          (both_tell (g.in_word.prints.writes o) (parens (or_else ((g.select_parts inner).rule.prints.writes r) None)) ps (form.enclosed (form.query q)) h
          (enclosed_tells (or_else ((g.select_parts inner).rule.prints.writes r) None) (form.query q) (either_tells ((g.select_parts inner).rule.prints.writes r) None (form.query q) k (none_tells (form.query q)))))

  module _ (there : (x : Term) → There (w inner x) → There (own inner x)) where
    -- an operand
    operand_tells : (x : Term) → HasTokens (P inner x) (form.bare_if (form.stands_alone x) (form.expr x))
    operand_tells x = subst (λ z. HasTokens z (form.bare_if (form.stands_alone x) (form.expr x))) (sym (prim_is inner x)) (go x)
      where
        go : (x : Term) → HasTokens (or_else (alone inner x) (parens (w inner x))) (form.bare_if (form.stands_alone x) (form.expr x))
        go (Literal y) = guarded (alone inner (Literal y)) (w inner (Literal y)) (form.expr (Literal y)) (alone_tells (Literal y)) (there (Literal y))
        go (Column y) = guarded (alone inner (Column y)) (w inner (Column y)) (form.expr (Column y)) (alone_tells (Column y)) (there (Column y))
        go CurrentUser = guarded (alone inner CurrentUser) (w inner CurrentUser) (form.expr CurrentUser) (alone_tells CurrentUser) (there CurrentUser)
        go (Exists y) = guarded (alone inner (Exists y)) (w inner (Exists y)) (form.expr (Exists y)) (alone_tells (Exists y)) (there (Exists y))
        go (Scalar y) = guarded (alone inner (Scalar y)) (w inner (Scalar y)) (form.expr (Scalar y)) (alone_tells (Scalar y)) (there (Scalar y))
        go (Var at) = enclosed_tells (w inner (Var at)) (form.expr (Var at)) (ih (Var at))
        go (Compare how a b) = enclosed_tells (w inner (Compare how a b)) (form.expr (Compare how a b)) (ih (Compare how a b))
        go (And xs) = enclosed_tells (w inner (And xs)) (form.expr (And xs)) (ih (And xs))
        go (Or xs) = enclosed_tells (w inner (Or xs)) (form.expr (Or xs)) (ih (Or xs))
        go (Not a) = enclosed_tells (w inner (Not a)) (form.expr (Not a)) (ih (Not a))
        go (IsNull a) = enclosed_tells (w inner (IsNull a)) (form.expr (IsNull a)) (ih (IsNull a))
        go (IsNotNull a) = enclosed_tells (w inner (IsNotNull a)) (form.expr (IsNotNull a)) (ih (IsNotNull a))
        go (InList a xs) = enclosed_tells (w inner (InList a xs)) (form.expr (InList a xs)) (ih (InList a xs))
        go (NotInList a xs) = enclosed_tells (w inner (NotInList a xs)) (form.expr (NotInList a xs)) (ih (NotInList a xs))
        go (InSubquery a q) = enclosed_tells (w inner (InSubquery a q)) (form.expr (InSubquery a q)) (ih (InSubquery a q))
        go (NotInSubquery a q) = enclosed_tells (w inner (NotInSubquery a q)) (form.expr (NotInSubquery a q)) (ih (NotInSubquery a q))
        go (Sum ys xs) = enclosed_tells (w inner (Sum ys xs)) (form.expr (Sum ys xs)) (ih (Sum ys xs))

    further_and : (xs : Terms) → HasTokens (many_writes (g.and_next inner).rule.spells (g.and_next inner).rule.prints (back.list_of xs)) (form.further (Word (codes "AND")) xs)
    unfolding g.and_next
    further_and End = λ ts e. e
    further_and (More x xs) =
        both_tell (joined (Some (Token.Word (codes "and") ∷ [])) (P inner x)) (many_writes (g.and_next inner).rule.spells (g.and_next inner).rule.prints (back.list_of xs))
        (Word (codes "AND") ∷ form.bare_if (form.stands_alone x) (form.expr x)) (form.further (Word (codes "AND")) xs)
        (both_tell (Some (Token.Word (codes "and") ∷ [])) (P inner x) (Word (codes "AND") ∷ []) (form.bare_if (form.stands_alone x) (form.expr x)) (λ ts e. e) (operand_tells x)) (further_and xs)

    further_or : (xs : Terms) → HasTokens (many_writes (g.or_next inner).rule.spells (g.or_next inner).rule.prints (back.list_of xs)) (form.further (Word (codes "OR")) xs)
    unfolding g.or_next
    further_or End = λ ts e. e
    further_or (More x xs) =
        both_tell (joined (Some (Token.Word (codes "or") ∷ [])) (P inner x)) (many_writes (g.or_next inner).rule.spells (g.or_next inner).rule.prints (back.list_of xs))
        (Word (codes "OR") ∷ form.bare_if (form.stands_alone x) (form.expr x)) (form.further (Word (codes "OR")) xs)
        (both_tell (Some (Token.Word (codes "or") ∷ [])) (P inner x) (Word (codes "OR") ∷ []) (form.bare_if (form.stands_alone x) (form.expr x)) (λ ts e. e) (operand_tells x)) (further_or xs)

    summands_tell : (xs : List Sign) (ys : Terms) (parts : List (Sign × Term)) → back.signed_parts xs ys ≡ Some parts
        → HasTokens (many_writes (g.sum_next inner).rule.spells (g.sum_next inner).rule.prints parts) (form.summands xs ys)
    unfolding g.sum_next
    summands_tell [] End parts h = subst (λ z. HasTokens (many_writes (g.sum_next inner).rule.spells (g.sum_next inner).rule.prints z) []) (some_is [] parts h) (λ ts e. e)
    summands_tell [] (More y ys) parts h = cc
    summands_tell (x ∷ xs) End parts h = cc
    summands_tell (x ∷ xs) (More y ys) parts h = go (back.signed_parts xs ys) (λ ps e. summands_tell xs ys ps e) h
      where
        go : (o : Option (List (Sign × Term))) → ((ps : List (Sign × Term)) → o ≡ Some ps → HasTokens (many_writes (g.sum_next inner).rule.spells (g.sum_next inner).rule.prints ps) (form.summands xs ys))
            → back.put_first (x, y) o ≡ Some parts → HasTokens (many_writes (g.sum_next inner).rule.spells (g.sum_next inner).rule.prints parts) (form.summands (x ∷ xs) (More y ys))
        go None again k = cc
        go (Some ps) again k =
            subst (λ z. HasTokens (many_writes (g.sum_next inner).rule.spells (g.sum_next inner).rule.prints z) (form.summands (x ∷ xs) (More y ys))) (some_is ((x, y) ∷ ps) parts k)
            (both_tell (joined (g.part_sign.prints.writes x) (P inner y)) (many_writes (g.sum_next inner).rule.spells (g.sum_next inner).rule.prints ps) (Marked (form.sign x) ∷ form.bare_if (form.stands_alone y) (form.expr y)) (form.summands xs ys)
            (both_tell (g.part_sign.prints.writes x) (P inner y) (Marked (form.sign x) ∷ []) (form.bare_if (form.stands_alone y) (form.expr y)) (sign_tells x) (operand_tells y)) (again ps refl))

    sum_tells : (xs : List Sign) (ys : Terms) → HasTokens (own inner (Sum xs ys)) (form.sum xs ys)
    sum_tells xs End = λ ts e. cc
    sum_tells xs (More y ys) = go (back.signed_parts xs ys) (λ ps e. summands_tell xs ys ps e)
      where
        go : (o : Option (List (Sign × Term))) → ((ps : List (Sign × Term)) → o ≡ Some ps → HasTokens (many_writes (g.sum_next inner).rule.spells (g.sum_next inner).rule.prints ps) (form.summands xs ys))
            → HasTokens (written_if (λ r. joined (P inner r.0) (many_writes (g.sum_next inner).rule.spells (g.sum_next inner).rule.prints r.1)) (back.with_others y o)) (form.bare_if (form.stands_alone y) (form.expr y) ++ form.summands xs ys)
        go None again = λ ts e. cc
        go (Some []) again = λ ts e. cc
        go (Some (z ∷ zs)) again = both_tell (P inner y) (many_writes (g.sum_next inner).rule.spells (g.sum_next inner).rule.prints (z ∷ zs)) (form.bare_if (form.stands_alone y) (form.expr y)) (form.summands xs ys) (operand_tells y) (again (z ∷ zs) refl)

    own_tells : (x : Term) → HasTokens (own inner x) (form.expr x)
    own_tells (Compare how a b) =
        both_tell (P inner a) (joined (g.comparison.prints.writes how) (P inner b)) (form.bare_if (form.stands_alone a) (form.expr a)) (Marked (form.comparison how) ∷ form.bare_if (form.stands_alone b) (form.expr b)) (operand_tells a)
        (both_tell (g.comparison.prints.writes how) (P inner b) (Marked (form.comparison how) ∷ []) (form.bare_if (form.stands_alone b) (form.expr b)) (comparison_tells how) (operand_tells b))
    own_tells (And (More x (More y ts))) =
        both_tell (P inner x) (many_writes (g.and_next inner).rule.spells (g.and_next inner).rule.prints (back.list_of (More y ts))) (form.bare_if (form.stands_alone x) (form.expr x)) (form.further (Word (codes "AND")) (More y ts)) (operand_tells x) (further_and (More y ts))
    own_tells (And End) = λ ts e. cc
    own_tells (And (More x End)) = λ ts e. cc
    own_tells (Or (More x (More y ts))) =
        both_tell (P inner x) (many_writes (g.or_next inner).rule.spells (g.or_next inner).rule.prints (back.list_of (More y ts))) (form.bare_if (form.stands_alone x) (form.expr x)) (form.further (Word (codes "OR")) (More y ts)) (operand_tells x) (further_or (More y ts))
    own_tells (Or End) = λ ts e. cc
    own_tells (Or (More x End)) = λ ts e. cc
    own_tells (Not a) = both_tell (g.nots.prints.writes 1) (P inner a) (Word (codes "NOT") ∷ []) (form.bare_if (form.stands_alone a) (form.expr a)) not_tells (operand_tells a)
    own_tells (IsNull a) = both_tell (P inner a) (many_writes g.null_test.spells g.null_test.prints (None ∷ [])) (form.bare_if (form.stands_alone a) (form.expr a)) (Word (codes "IS") ∷ Word (codes "NULL") ∷ []) (operand_tells a) null_tells
    own_tells (IsNotNull a) =
        both_tell (P inner a) (many_writes g.null_test.spells g.null_test.prints (Some tt ∷ [])) (form.bare_if (form.stands_alone a) (form.expr a)) (Word (codes "IS") ∷ Word (codes "NOT") ∷ Word (codes "NULL") ∷ []) (operand_tells a) not_null_tells
    own_tells (InList a xs) =
        both_tell (P inner a) ((g.in_choices inner).rule.prints.writes (None, inl (back.list_of xs))) (form.bare_if (form.stands_alone a) (form.expr a)) (Word (codes "IN") ∷ form.enclosed (form.list xs)) (operand_tells a)
        (among_tells None (Word (codes "IN") ∷ []) xs in_tells)
    own_tells (NotInList a xs) =
        both_tell (P inner a) ((g.in_choices inner).rule.prints.writes (Some tt, inl (back.list_of xs))) (form.bare_if (form.stands_alone a) (form.expr a)) (Word (codes "NOT") ∷ Word (codes "IN") ∷ form.enclosed (form.list xs)) (operand_tells a)
        (among_tells (Some tt) (Word (codes "NOT") ∷ Word (codes "IN") ∷ []) xs not_in_tells)
    own_tells (InSubquery a q) = within_tells None (Word (codes "IN") ∷ []) a q (operand_tells a) in_tells
    own_tells (NotInSubquery a q) = within_tells (Some tt) (Word (codes "NOT") ∷ Word (codes "IN") ∷ []) a q (operand_tells a) not_in_tells
    own_tells (Sum xs ys) = sum_tells xs ys
    own_tells (Literal x) = alone_tells (Literal x)
    own_tells (Column x) = alone_tells (Column x)
    own_tells CurrentUser = alone_tells CurrentUser
    own_tells (Exists q) = alone_tells (Exists q)
    own_tells (Scalar q) = alone_tells (Scalar q)
    own_tells (Var at) = λ ts e. cc

    or_tells : (x : Term) → HasTokens ((g.or inner).rule.prints.writes x) (form.expr x)
    or_tells x = subst (λ z. HasTokens z (form.expr x)) (sym (expr_is inner x)) (guarded (own inner x) (w inner x) (form.expr x) (own_tells x) (there x))

-- ---- what is written within fewer parentheses is written within more

pub there_both : (o u : Option (List Token)) → There o → There u → There (joined o u)
there_both None u h k = absurd h
there_both (Some x) None h k = absurd k
there_both (Some x) (Some y) h k = tt

pub there_parts : (o u : Option (List Token)) → There (joined o u) → There o × There u
there_parts None u h = absurd h
there_parts (Some x) None h = absurd h
there_parts (Some x) (Some y) h = (tt, tt)

grow_both : (o u o' u' : Option (List Token)) → (There o → There o') → (There u → There u') → There (joined o u) → There (joined o' u')
grow_both o u o' u' f k h = let x = there_parts o u h in there_both o' u' (f x.0) (k x.1)

grow_either : (o u o' u' : Option (List Token)) → (There o → There o') → (There u → There u') → There (or_else o u) → There (or_else o' u')
grow_either None u None u' f k h = k h
grow_either None u (Some x) u' f k h = tt
grow_either (Some x) u None u' f k h = absurd (f tt)
grow_either (Some x) u (Some y) u' f k h = tt

grow_if : {A : Type 0} (f f' : A → Option (List Token)) (o : Option A) → ((a : A) → There (f a) → There (f' a)) → There (written_if f o) → There (written_if f' o)
grow_if f f' None k h = h
grow_if f f' (Some a) k h = k a h

grow_parens : (o o' : Option (List Token)) → (There o → There o') → There (parens o) → There (parens o')
grow_parens o o' f h = grow_both (Some (Token.Symbol Symbol.LParen ∷ [])) (joined o (Some (Token.Symbol Symbol.RParen ∷ []))) (Some (Token.Symbol Symbol.LParen ∷ [])) (joined o' (Some (Token.Symbol Symbol.RParen ∷ []))) (λ x. x)
    (grow_both o (Some (Token.Symbol Symbol.RParen ∷ [])) o' (Some (Token.Symbol Symbol.RParen ∷ [])) f (λ x. x)) h

grow_many : {A : Type 0} (p p' : List Token → A → Type 0) (W : Writer p) (W' : Writer p') → ((a : A) → There (W.writes a) → There (W'.writes a)) → (xs : List A) → There (many_writes p W xs) → There (many_writes p' W' xs)
grow_many p p' W W' k [] h = tt
grow_many p p' W W' k (x ∷ xs) h = grow_both (W.writes x) (many_writes p W xs) (W'.writes x) (many_writes p' W' xs) (k x) (grow_many p p' W W' k xs) h

grow_perhaps : {A : Type 0} (p p' : List Token → A → Type 0) (W : Writer p) (W' : Writer p') → ((a : A) → There (W.writes a) → There (W'.writes a)) → (x : Option A) → There (perhaps_writes p W x) → There (perhaps_writes p' W' x)
grow_perhaps p p' W W' k None h = tt
grow_perhaps p p' W W' k (Some x) h = k x h

module _ (i j : Cut tree_of expr_heads expr_more false) (grow : (x : Term) → There (i.rule.prints.writes x) → There (j.rule.prints.writes x)) where
  condition_grows : (x : Option Term) → There ((g.condition i).rule.prints.writes x) → There ((g.condition j).rule.prints.writes x)
  unfolding g.condition
  condition_grows None h = tt
  condition_grows (Some x) h = grow_both (Some (Token.Word (codes "where") ∷ [])) (i.rule.prints.writes x) (Some (Token.Word (codes "where") ∷ [])) (j.rule.prints.writes x) (λ z. z) (grow x) h

  select_grows : (r : SelectParts) → There ((g.select_parts i).rule.prints.writes r) → There ((g.select_parts j).rule.prints.writes r)
  unfolding g.select_parts
  select_grows r h =
      grow_both (Some (Token.Word (codes "select") ∷ [])) (joined (g.items.prints.writes r.0) (joined (g.from_table.prints.writes r.1.0) ((g.condition i).rule.prints.writes r.1.1)))
      (Some (Token.Word (codes "select") ∷ [])) (joined (g.items.prints.writes r.0) (joined (g.from_table.prints.writes r.1.0) ((g.condition j).rule.prints.writes r.1.1))) (λ z. z)
      (grow_both (g.items.prints.writes r.0) (joined (g.from_table.prints.writes r.1.0) ((g.condition i).rule.prints.writes r.1.1)) (g.items.prints.writes r.0) (joined (g.from_table.prints.writes r.1.0) ((g.condition j).rule.prints.writes r.1.1)) (λ z. z)
      (grow_both (g.from_table.prints.writes r.1.0) ((g.condition i).rule.prints.writes r.1.1) (g.from_table.prints.writes r.1.0) ((g.condition j).rule.prints.writes r.1.1) (λ z. z) (condition_grows r.1.1))) h

  exists_grows : (q : Query) → There ((g.exists i).rule.prints.writes (Exists q)) → There ((g.exists j).rule.prints.writes (Exists q))
  unfolding g.exists
  exists_grows q h =
      grow_if (λ r. joined (Some (Token.Word (codes "exists") ∷ [])) (parens ((g.select_parts i).rule.prints.writes r))) (λ r. joined (Some (Token.Word (codes "exists") ∷ [])) (parens ((g.select_parts j).rule.prints.writes r))) (back.as_query q)
      (λ r. grow_both (Some (Token.Word (codes "exists") ∷ [])) (parens ((g.select_parts i).rule.prints.writes r)) (Some (Token.Word (codes "exists") ∷ [])) (parens ((g.select_parts j).rule.prints.writes r)) (λ z. z)
      (grow_parens ((g.select_parts i).rule.prints.writes r) ((g.select_parts j).rule.prints.writes r) (select_grows r))) h

  scalar_grows : (q : Query) → There ((g.scalar i).rule.prints.writes (Scalar q)) → There ((g.scalar j).rule.prints.writes (Scalar q))
  unfolding g.scalar
  scalar_grows q h = grow_if (g.select_parts i).rule.prints.writes (g.select_parts j).rule.prints.writes (back.as_query q) select_grows h

  comma_grows : (x : Term) → There ((cut.with_comma i).rule.prints.writes x) → There ((cut.with_comma j).rule.prints.writes x)
  unfolding cut.with_comma
  comma_grows x h = grow_both (Some (Token.Symbol Symbol.Comma ∷ [])) (i.rule.prints.writes x) (Some (Token.Symbol Symbol.Comma ∷ [])) (j.rule.prints.writes x) (λ z. z) (grow x) h

  parts_grow : (xs : List Term) → There ((g.parts i).rule.prints.writes xs) → There ((g.parts j).rule.prints.writes xs)
  unfolding g.parts
  parts_grow [] h = h
  parts_grow (x ∷ xs) h =
      grow_both (i.rule.prints.writes x) (many_writes (cut.with_comma i).rule.spells (cut.with_comma i).rule.prints xs) (j.rule.prints.writes x) (many_writes (cut.with_comma j).rule.spells (cut.with_comma j).rule.prints xs) (grow x)
      (grow_many (cut.with_comma i).rule.spells (cut.with_comma j).rule.spells (cut.with_comma i).rule.prints (cut.with_comma j).rule.prints comma_grows xs) h

  in_grows : (o : Option (Unit {0})) (x : Choices) → There ((g.in_choices i).rule.prints.writes (o, x)) → There ((g.in_choices j).rule.prints.writes (o, x))
  unfolding g.in_choices g.enclosed_choices g.choices
  in_grows o (inl xs) h =
      grow_both (g.in_word.prints.writes o) (parens ((g.parts i).rule.prints.writes xs)) (g.in_word.prints.writes o) (parens ((g.parts j).rule.prints.writes xs)) (λ z. z) (grow_parens ((g.parts i).rule.prints.writes xs) ((g.parts j).rule.prints.writes xs) (parts_grow xs)) h
  in_grows o (inr r) h =
      grow_both (g.in_word.prints.writes o) (parens (or_else ((g.select_parts i).rule.prints.writes r) None)) (g.in_word.prints.writes o) (parens (or_else ((g.select_parts j).rule.prints.writes r) None)) (λ z. z)
      (grow_parens (or_else ((g.select_parts i).rule.prints.writes r) None) (or_else ((g.select_parts j).rule.prints.writes r) None)
      (grow_either ((g.select_parts i).rule.prints.writes r) None ((g.select_parts j).rule.prints.writes r) None (select_grows r) (λ z. z))) h

  alone_grows : (x : Term) → There (alone i x) → There (alone j x)
  alone_grows (Literal x) h = h
  alone_grows (Column x) h = h
  alone_grows CurrentUser h = h
  alone_grows (Exists q) h = exists_grows q h
  alone_grows (Scalar q) h = grow_parens ((g.scalar i).rule.prints.writes (Scalar q)) ((g.scalar j).rule.prints.writes (Scalar q)) (scalar_grows q) h
  alone_grows _ h = absurd h

  prim_grows : (x : Term) → There (P i x) → There (P j x)
  prim_grows x h =
      subst (λ z. There z) (sym (prim_is j x))
      (grow_either (alone i x) (parens (w i x)) (alone j x) (parens (w j x)) (alone_grows x) (grow_parens (w i x) (w j x) (grow x)) (subst (λ z. There z) (prim_is i x) h))

  and_grows : (x : Term) → There ((g.and_next i).rule.prints.writes x) → There ((g.and_next j).rule.prints.writes x)
  unfolding g.and_next
  and_grows x h = grow_both (Some (Token.Word (codes "and") ∷ [])) (P i x) (Some (Token.Word (codes "and") ∷ [])) (P j x) (λ z. z) (prim_grows x) h

  or_grows : (x : Term) → There ((g.or_next i).rule.prints.writes x) → There ((g.or_next j).rule.prints.writes x)
  unfolding g.or_next
  or_grows x h = grow_both (Some (Token.Word (codes "or") ∷ [])) (P i x) (Some (Token.Word (codes "or") ∷ [])) (P j x) (λ z. z) (prim_grows x) h

  sum_grows : (r : Sign × Term) → There ((g.sum_next i).rule.prints.writes r) → There ((g.sum_next j).rule.prints.writes r)
  unfolding g.sum_next
  sum_grows r h = grow_both (g.part_sign.prints.writes r.0) (P i r.1) (g.part_sign.prints.writes r.0) (P j r.1) (λ z. z) (prim_grows r.1) h

  own_grows : (x : Term) → There (own i x) → There (own j x)
  own_grows (Compare how a b) h =
      grow_both (P i a) (joined (g.comparison.prints.writes how) (P i b)) (P j a) (joined (g.comparison.prints.writes how) (P j b)) (prim_grows a) (grow_both (g.comparison.prints.writes how) (P i b) (g.comparison.prints.writes how) (P j b) (λ z. z) (prim_grows b)) h
  own_grows (And ts) h =
      grow_if (λ r. joined (P i r.0) (many_writes (g.and_next i).rule.spells (g.and_next i).rule.prints r.1)) (λ r. joined (P j r.0) (many_writes (g.and_next j).rule.spells (g.and_next j).rule.prints r.1)) (back.as_operands ts)
      (λ r. grow_both (P i r.0) (many_writes (g.and_next i).rule.spells (g.and_next i).rule.prints r.1) (P j r.0) (many_writes (g.and_next j).rule.spells (g.and_next j).rule.prints r.1) (prim_grows r.0)
      (grow_many (g.and_next i).rule.spells (g.and_next j).rule.spells (g.and_next i).rule.prints (g.and_next j).rule.prints and_grows r.1)) h
  own_grows (Or ts) h =
      grow_if (λ r. joined (P i r.0) (many_writes (g.or_next i).rule.spells (g.or_next i).rule.prints r.1)) (λ r. joined (P j r.0) (many_writes (g.or_next j).rule.spells (g.or_next j).rule.prints r.1)) (back.as_operands ts)
      (λ r. grow_both (P i r.0) (many_writes (g.or_next i).rule.spells (g.or_next i).rule.prints r.1) (P j r.0) (many_writes (g.or_next j).rule.spells (g.or_next j).rule.prints r.1) (prim_grows r.0)
      (grow_many (g.or_next i).rule.spells (g.or_next j).rule.spells (g.or_next i).rule.prints (g.or_next j).rule.prints or_grows r.1)) h
  own_grows (Not a) h = grow_both (g.nots.prints.writes 1) (P i a) (g.nots.prints.writes 1) (P j a) (λ z. z) (prim_grows a) h
  own_grows (IsNull a) h = grow_both (P i a) (many_writes g.null_test.spells g.null_test.prints (None ∷ [])) (P j a) (many_writes g.null_test.spells g.null_test.prints (None ∷ [])) (prim_grows a) (λ z. z) h
  own_grows (IsNotNull a) h = grow_both (P i a) (many_writes g.null_test.spells g.null_test.prints (Some tt ∷ [])) (P j a) (many_writes g.null_test.spells g.null_test.prints (Some tt ∷ [])) (prim_grows a) (λ z. z) h
  own_grows (InList a ts) h =
      grow_both (P i a) ((g.in_choices i).rule.prints.writes (None, inl (back.list_of ts))) (P j a) ((g.in_choices j).rule.prints.writes (None, inl (back.list_of ts))) (prim_grows a) (in_grows None (inl (back.list_of ts))) h
  own_grows (NotInList a ts) h =
      grow_both (P i a) ((g.in_choices i).rule.prints.writes (Some tt, inl (back.list_of ts))) (P j a) ((g.in_choices j).rule.prints.writes (Some tt, inl (back.list_of ts))) (prim_grows a) (in_grows (Some tt) (inl (back.list_of ts))) h
  own_grows (InSubquery a q) h = within_grows (back.behind_in a None (back.as_query q)) h
    where
      within_grows : (o : Option (Term × Option (Option (Unit {0}) × Choices))) → There (written_if (λ r. joined (P i r.0) (perhaps_writes (g.in_choices i).rule.spells (g.in_choices i).rule.prints r.1)) o)
          → There (written_if (λ r. joined (P j r.0) (perhaps_writes (g.in_choices j).rule.spells (g.in_choices j).rule.prints r.1)) o)
      within_grows None k = k
      within_grows (Some r) k = grow_both (P i r.0) (perhaps_writes (g.in_choices i).rule.spells (g.in_choices i).rule.prints r.1) (P j r.0) (perhaps_writes (g.in_choices j).rule.spells (g.in_choices j).rule.prints r.1) (prim_grows r.0)
          (grow_perhaps (g.in_choices i).rule.spells (g.in_choices j).rule.spells (g.in_choices i).rule.prints (g.in_choices j).rule.prints (λ c. in_grows c.0 c.1) r.1) k
  own_grows (NotInSubquery a q) h = within_grows (back.behind_in a (Some tt) (back.as_query q)) h
    where
      within_grows : (o : Option (Term × Option (Option (Unit {0}) × Choices))) → There (written_if (λ r. joined (P i r.0) (perhaps_writes (g.in_choices i).rule.spells (g.in_choices i).rule.prints r.1)) o)
          → There (written_if (λ r. joined (P j r.0) (perhaps_writes (g.in_choices j).rule.spells (g.in_choices j).rule.prints r.1)) o)
      within_grows None k = k
      within_grows (Some r) k = grow_both (P i r.0) (perhaps_writes (g.in_choices i).rule.spells (g.in_choices i).rule.prints r.1) (P j r.0) (perhaps_writes (g.in_choices j).rule.spells (g.in_choices j).rule.prints r.1) (prim_grows r.0)
          (grow_perhaps (g.in_choices i).rule.spells (g.in_choices j).rule.spells (g.in_choices i).rule.prints (g.in_choices j).rule.prints (λ c. in_grows c.0 c.1) r.1) k
  own_grows (Sum xs ts) h =
      grow_if (λ r. joined (P i r.0) (many_writes (g.sum_next i).rule.spells (g.sum_next i).rule.prints r.1)) (λ r. joined (P j r.0) (many_writes (g.sum_next j).rule.spells (g.sum_next j).rule.prints r.1)) (back.as_sum (Sum xs ts))
      (λ r. grow_both (P i r.0) (many_writes (g.sum_next i).rule.spells (g.sum_next i).rule.prints r.1) (P j r.0) (many_writes (g.sum_next j).rule.spells (g.sum_next j).rule.prints r.1) (prim_grows r.0)
      (grow_many (g.sum_next i).rule.spells (g.sum_next j).rule.spells (g.sum_next i).rule.prints (g.sum_next j).rule.prints sum_grows r.1)) h
  own_grows (Literal x) h = alone_grows (Literal x) h
  own_grows (Column x) h = alone_grows (Column x) h
  own_grows CurrentUser h = alone_grows CurrentUser h
  own_grows (Exists q) h = alone_grows (Exists q) h
  own_grows (Scalar q) h = alone_grows (Scalar q) h
  own_grows (Var at) h = h

-- ---- at each depth

there_own : (o u : Option (List Token)) → There (or_else o (parens u)) → (There u → There o) → There o
there_own (Some x) u h k = tt
there_own None None h k = h
there_own None (Some y) h k = k tt

-- what is written is written at its own level
there_expr : (d : ℕ) (x : Term) → There ((g.expr d).rule.prints.writes x) → There (own (g.expr d) x)
unfolding g.expr
there_expr zero x h = absurd h
there_expr (suc d) x h =
    own_grows (g.expr d) (g.or (g.expr d)) (λ y k. subst (λ z. There z) (sym (expr_is (g.expr d) y)) (kept (own (g.expr d) y) (parens (w (g.expr d) y)) (there_expr d y k))) x
    (there_own (own (g.expr d) x) (w (g.expr d) x) (subst (λ z. There z) (expr_is (g.expr d) x) h) (there_expr d x))
  where
    kept : (o u : Option (List Token)) → There o → There (or_else o u)
    kept None u k = absurd k
    kept (Some y) u k = tt

-- What is written for an expression, at whatever depth, are the tokens of its words.
pub expr_tells : (d : ℕ) (x : Term) → HasTokens ((g.expr d).rule.prints.writes x) (form.expr x)
unfolding g.expr
expr_tells zero x = λ ts e. cc
expr_tells (suc d) x = or_tells (g.expr d) (expr_tells d) (there_expr d) x
