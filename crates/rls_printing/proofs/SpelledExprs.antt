-- What is spelled as an expression is written, within as many parentheses as it is high.
use Rattle.std.proofs.Common.{◌≡◌, ℕ, zero, suc, ◌+◌, ◌≤◌, false, List, [], ◌∷◌, Option, Some, None, refl, ap, sym, inl, inr, subst, arith, le_refl}
use Rattle.std.specs.Prelude.{codes}
use Rattle.rls_expr.specs.{Terms.Term, Terms.Literal, Terms.Column, Terms.CurrentUser, Terms.Compare, Terms.And, Terms.Or, Terms.Not, Terms.IsNull, Terms.IsNotNull, Terms.InList, Terms.NotInList, Terms.Exists, Terms.InSubquery, Terms.NotInSubquery, Terms.Scalar, Terms.Select, Terms.terms_of, declared.expr.Comparison.Comparison, declared.expr.Sign.Sign}
use Rattle.rls_statement.specs.declared.statement.Selected.TheVariants as chosen
use Rattle.rls_text.specs.declared.token.Symbol.TheVariants as s
use Rattle.rls_text.specs.{declared.token.Token.Token, Cut.Cut, Cutting.tree_of, FirstSets.expr_heads, FirstSets.expr_more, Values.SelectParts, Values.Choices, Heights.height, Heights.heights, Heights.query_height, Heights.height_if, Writes.joined, Writes.or_else, Writes.written_if, Writes.many_writes, Writes.perhaps_writes, Lang.only, Lang.Both, Lang.Mapped, Lang.Either, Lang.Perhaps, Lang.Many, Lang.After, Lang.Before, Lang.put_in}
use Rattle.rls_text.specs.declared.token.Token.TheVariants as t
use Rattle.rls_text.specs.Cut as cut
use Rattle.rls_text.specs.Grammar as g
use Rattle.rls_text.specs.Values as values
use Rattle.rls_text.specs.WaysBack as back
use Rattle.rls_printing.proofs.{Writing.There, Writing.there_both, Writing.parens, Writing.w, Writing.P, Writing.alone, Writing.own, Writing.prim_is, Writing.expr_is, Spelled.there_first, Spelled.there_last, Spelled.there_of, Spelled.item_full, Spelled.items_full, Spelled.from_full}

-- ---- what is known of the values that are spelled

-- Q holds of each value that p spells
pub record Says {A : Type 0} (p : List Token → A → Type 0) (Q : A → Type 0) : Type 0 where
  pub says : (ts : List Token) (a : A) → p ts a → Q a

-- of the value, if it is there
abbrev pub If : {A : Type 0} → (A → Type 0) → Option A → Type 0
If Q None = Unit {0}
If Q (Some a) = Q a

-- of each
abbrev pub Each : {A : Type 0} → (A → Type 0) → List A → Type 0
Each Q [] = Unit {0}
Each Q (x ∷ xs) = Q x × Each Q xs

pub nothing_said : {A : Type 0} (p : List Token → A → Type 0) → Says p (λ a. Unit {0})
nothing_said p = record { says = λ ts a h. tt }

module _ {A : Type 0} (p : List Token → A → Type 0) (Q R : A → Type 0) where
  pub said : ((a : A) → Q a → R a) → Says p Q → Says p R
  said f h = record { says = λ ts a x. f a (h.says ts a x) }

module _ {A B : Type 0} (p : List Token → A → Type 0) (q : List Token → B → Type 0) (Q : A → Type 0) (R : B → Type 0) where
  pub both_say : Says p Q → Says q R → Says (Both p q) (λ r. Q r.0 × R r.1)
  both_say h k = record { says = λ ts r x. (h.says x.front r.0 x.one, k.says x.rest r.1 x.other) }

module _ {A B : Type 0} (p : List Token → A → Type 0) (q : List Token → B → Type 0) where
  pub after_says : (R : B → Type 0) → Says q R → Says (After p q) R
  after_says R k = record { says = λ ts b x. subst R (sym x.value) (k.says x.spelled.rest x.source.1 x.spelled.other) }

  pub before_says : (Q : A → Type 0) → Says p Q → Says (Before p q) Q
  before_says Q h = record { says = λ ts a x. subst Q (sym x.value) (h.says x.spelled.front x.source.0 x.spelled.one) }

module _ {A B : Type 0} (f : A → B) (p : List Token → A → Type 0) (Q : A → Type 0) (R : B → Type 0) where
  pub mapped_says : ((a : A) → Q a → R (f a)) → Says p Q → Says (Mapped f p) R
  mapped_says g h = record { says = λ ts b x. subst R (sym x.value) (g x.source (h.says ts x.source x.spelled)) }

module _ {A : Type 0} (p q : List Token → A → Type 0) (Q : A → Type 0) where
  pub either_says : Says p Q → Says q Q → Says (Either p q) Q
  either_says h k = record { says = λ ts a x. elim x [ inl y ↦ h.says ts a y | inr y ↦ k.says ts a y ] }

module _ {A : Type 0} (p : List Token → A → Type 0) (Q : A → Type 0) where
  pub perhaps_says : Says p Q → Says (Perhaps p) (If Q)
  perhaps_says h = record { says = go }
    where
      go : (ts : List Token) (a : Option A) → Perhaps p ts a → If Q a
      go ts None x = tt
      go ts (Some a) x = h.says ts a x

  pub many_say : Says p Q → Says (Many p) (Each Q)
  many_say h = record { says = go }
    where
      go : (ts : List Token) (xs : List A) → Many p ts xs → Each Q xs
      go ts [] x = tt
      go ts (a ∷ xs) x = (h.says x.0 a x.3, go x.1 xs x.4)

-- "(" .. ")"
pub enclosed_says : {A : Type 0} (p : List Token → A → Type 0) (Q : A → Type 0) → Says p Q → Says (After (only (t.Symbol s.LParen)) (Before p (only (t.Symbol s.RParen)))) Q
enclosed_says p Q h =
    after_says (only (t.Symbol s.LParen)) (Before p (only (t.Symbol s.RParen))) Q (before_says p (only (t.Symbol s.RParen)) Q h)

-- ---- expressions that are written

-- it is written within as many parentheses as it is high, and within more
pub record Reached (x : Term) : Type 0 where
  pub within : (n : ℕ) → height x ≤ n → There ((g.expr n).rule.prints.writes x)

-- so is the condition of these parts, and what they select and their table are written
pub record SelectReached (r : SelectParts) : Type 0 where
  pub within : (n : ℕ) → height_if r.1.1 ≤ n → There ((g.select_parts (g.expr n)).rule.prints.writes r)

-- there is one at least, and each is
abbrev pub PartsReached : List Term → Type 0
PartsReached [] = ⊥
PartsReached (x ∷ xs) = Reached x × Each Reached xs

-- a list, or a SELECT
abbrev ChoicesReached : Choices → Type 0
ChoicesReached (inl xs) = PartsReached xs
ChoicesReached (inr r) = SelectReached r

one_high : (x : Term) → 1 ≤ height x
one_high (Scalar (Select from key selects items condition)) = omega arith
one_high (Literal v) = omega arith
one_high _ = omega arith

-- where it is written at its own level
own_reached : (x : Term) → ((m : ℕ) → height x ≤ suc m → There (own (g.expr m) x)) → Reached x
unfolding g.expr
own_reached x f = record { within = go }
  where
    go : (n : ℕ) → height x ≤ n → There ((g.expr n).rule.prints.writes x)
    go zero h = let one = one_high x in absurd (omega (arith, one, h))
    go (suc m) h = subst (λ z. There z) (sym (expr_is (g.expr m) x)) (there_first (own (g.expr m) x) (parens (w (g.expr m) x)) (f m h))

pub there_parens : (o : Option (List Token)) → There o → There (parens o)
there_parens o h = there_both (Some (t.Symbol s.LParen ∷ [])) (joined o (Some (t.Symbol s.RParen ∷ []))) tt (there_both o (Some (t.Symbol s.RParen ∷ [])) h tt)

operand : (x : Term) (m : ℕ) → height x ≤ m → Reached x → There (P (g.expr m) x)
operand x m h r = subst (λ z. There z) (sym (prim_is (g.expr m) x)) (there_last (alone (g.expr m) x) (parens (w (g.expr m) x)) (there_parens (w (g.expr m) x) (r.within m h)))

pub list_again : (xs : List Term) → back.list_of (terms_of xs) ≡ xs
list_again [] = refl
list_again (x ∷ xs) = ap (λ z. x ∷ z) (list_again xs)

-- ---- items and subqueries

item_reached : Says g.item.spells Reached
unfolding g.item
item_reached = record {
  says = λ ts x h.
      let there = item_full.written ts x h in
      elim h [
        | inl y ↦ subst Reached (sym y.value) (own_reached (Literal y.source) (λ m k. subst (λ z. There (g.item.prints.writes z)) y.value there))
        | inr y ↦ elim y [
          | inl z ↦ subst Reached (sym z.value) (own_reached (Column z.source) (λ m k. subst (λ z. There (g.item.prints.writes z)) z.value there))
          | inr z ↦ subst Reached (sym z.value) (own_reached CurrentUser (λ m k. tt))
        ]
      ];
}

query_again : (r : SelectParts) → back.as_query (values.query_of r) ≡ Some r
query_again (chosen.All, ((table, a), None)) = refl
query_again (chosen.All, ((table, a), Some x)) = refl
query_again (chosen.Count, ((table, a), None)) = refl
query_again (chosen.Count, ((table, a), Some x)) = refl
query_again (chosen.Items xs, ((table, a), None)) = ap (λ z. Some (chosen.Items z, ((table, a), None))) (list_again xs)
query_again (chosen.Items xs, ((table, a), Some x)) = ap (λ z. Some (chosen.Items z, ((table, a), Some x))) (list_again xs)

condition_high : (r : SelectParts) → height_if r.1.1 + 1 ≤ query_height (values.query_of r)
condition_high (x, (table, None)) = omega arith
condition_high (x, (table, Some y)) = omega arith

exists_reached : (r : SelectParts) → SelectReached r → Reached (Exists (values.query_of r))
unfolding g.exists
exists_reached r h =
    own_reached (Exists (values.query_of r))
    (λ m k.
    let high = condition_high r in
    there_of (λ z. joined (Some (t.Word (codes "exists") ∷ [])) (parens ((g.select_parts (g.expr m)).rule.prints.writes z))) (back.as_query (values.query_of r)) r (query_again r)
    (there_both (Some (t.Word (codes "exists") ∷ [])) (parens ((g.select_parts (g.expr m)).rule.prints.writes r)) tt
    (there_parens ((g.select_parts (g.expr m)).rule.prints.writes r) (h.within m (omega (arith, high, k))))))

scalar_reached : (r : SelectParts) → SelectReached r → Reached (Scalar (values.query_of r))
unfolding g.scalar
scalar_reached r h =
    own_reached (Scalar (values.query_of r))
    (λ m k.
    let high = condition_high r in
    there_parens (written_if (g.select_parts (g.expr m)).rule.prints.writes (back.as_query (values.query_of r)))
    (there_of (g.select_parts (g.expr m)).rule.prints.writes (back.as_query (values.query_of r)) r (query_again r) (h.within m (omega (arith, high, k)))))

-- ---- sums

sign_there : (x : Sign) → There (g.part_sign.prints.writes x)
unfolding g.part_sign
sign_there Sign.Plus = tt
sign_there Sign.Minus = tt

signed_again : (parts : List (Sign × Term)) → back.signed_parts (values.signs_of parts) (terms_of (values.parts_of parts)) ≡ Some parts
signed_again [] = refl
signed_again (x ∷ xs) = ap (λ o. back.put_first x o) (signed_again xs)

summands_there : (parts : List (Sign × Term)) (m : ℕ) → heights (terms_of (values.parts_of parts)) ≤ m → Each (λ x. Unit {0} × Reached x.1) parts → There (many_writes (g.sum_next (g.expr m)).rule.spells (g.sum_next (g.expr m)).rule.prints parts)
unfolding g.sum_next
summands_there [] m h r = tt
summands_there (x ∷ xs) m h r =
    there_both (joined (g.part_sign.prints.writes x.0) (P (g.expr m) x.1)) (many_writes (g.sum_next (g.expr m)).rule.spells (g.sum_next (g.expr m)).rule.prints xs)
    (there_both (g.part_sign.prints.writes x.0) (P (g.expr m) x.1) (sign_there x.0) (operand x.1 m (omega (arith, h)) r.0.1)) (summands_there xs m (omega (arith, h)) r.1)

sum_reached : (first : Term) (parts : List (Sign × Term)) → Reached first → Each (λ x. Unit {0} × Reached x.1) parts → Reached (values.sum_of first parts)
sum_reached first [] a r = a
sum_reached first (second ∷ more) a r =
    let parts = second ∷ more in
    own_reached (values.sum_of first (second ∷ more))
    (λ m k.
    there_of (λ z. joined (P (g.expr m) z.0) (many_writes (g.sum_next (g.expr m)).rule.spells (g.sum_next (g.expr m)).rule.prints z.1)) (back.as_sum (values.sum_of first (second ∷ more))) (first, second ∷ more)
    (ap (λ o. back.with_others first o) (signed_again (second ∷ more)))
    (there_both (P (g.expr m) first) (many_writes (g.sum_next (g.expr m)).rule.spells (g.sum_next (g.expr m)).rule.prints (second ∷ more)) (operand first m (omega (arith, k)) a)
    (summands_there (second ∷ more) m (omega (arith, k)) r)))

-- ---- IN

in_there : (o : Option (Unit {0})) → There (g.in_word.prints.writes o)
unfolding g.in_word
in_there None = tt
in_there (Some x) = tt

commas_there : (xs : List Term) (m : ℕ) → heights (terms_of xs) ≤ m → Each Reached xs → There (many_writes (cut.with_comma (g.expr m)).rule.spells (cut.with_comma (g.expr m)).rule.prints xs)
unfolding cut.with_comma
commas_there [] m h r = tt
commas_there (x ∷ xs) m h r =
    there_both (joined (Some (t.Symbol s.Comma ∷ [])) (w (g.expr m) x)) (many_writes (cut.with_comma (g.expr m)).rule.spells (cut.with_comma (g.expr m)).rule.prints xs)
    (there_both (Some (t.Symbol s.Comma ∷ [])) (w (g.expr m) x) tt (r.0.within m (omega (arith, h)))) (commas_there xs m (omega (arith, h)) r.1)

pub parts_there : (xs : List Term) (m : ℕ) → heights (terms_of xs) ≤ m → PartsReached xs → There ((g.parts (g.expr m)).rule.prints.writes xs)
unfolding g.parts
parts_there [] m h r = absurd r
parts_there (x ∷ xs) m h r =
    there_both (w (g.expr m) x) (many_writes (cut.with_comma (g.expr m)).rule.spells (cut.with_comma (g.expr m)).rule.prints xs) (r.0.within m (omega (arith, h))) (commas_there xs m (omega (arith, h)) r.1)

listed_there : (o : Option (Unit {0})) (xs : List Term) (m : ℕ) → heights (terms_of xs) ≤ m → PartsReached xs → There ((g.in_choices (g.expr m)).rule.prints.writes (o, inl (back.list_of (terms_of xs))))
unfolding g.in_choices g.enclosed_choices g.choices
listed_there o xs m h r =
    subst (λ z. There ((g.in_choices (g.expr m)).rule.prints.writes (o, inl z))) (sym (list_again xs))
    (there_both (g.in_word.prints.writes o) (parens ((g.parts (g.expr m)).rule.prints.writes xs)) (in_there o) (there_parens ((g.parts (g.expr m)).rule.prints.writes xs) (parts_there xs m h r)))

queried_there : (o : Option (Unit {0})) (r : SelectParts) (m : ℕ) → height_if r.1.1 ≤ m → SelectReached r → There ((g.in_choices (g.expr m)).rule.prints.writes (o, inr r))
unfolding g.in_choices g.enclosed_choices g.choices
queried_there o r m h k =
    there_both (g.in_word.prints.writes o) (parens (or_else ((g.select_parts (g.expr m)).rule.prints.writes r) None)) (in_there o)
    (there_parens (or_else ((g.select_parts (g.expr m)).rule.prints.writes r) None) (there_first ((g.select_parts (g.expr m)).rule.prints.writes r) None (k.within m h)))

-- a left side and a SELECT
within_there : (o : Option (Unit {0})) (a : Term) (r : SelectParts) (m : ℕ) → height a ≤ m → height_if r.1.1 ≤ m → Reached a → SelectReached r
    → There (written_if (λ z. joined (P (g.expr m) z.0) (perhaps_writes (g.in_choices (g.expr m)).rule.spells (g.in_choices (g.expr m)).rule.prints z.1)) (back.behind_in a o (back.as_query (values.query_of r))))
within_there o a r m h k x y =
    there_of (λ z. joined (P (g.expr m) z.0) (perhaps_writes (g.in_choices (g.expr m)).rule.spells (g.in_choices (g.expr m)).rule.prints z.1)) (back.behind_in a o (back.as_query (values.query_of r))) (a, Some (o, inr r))
    (ap (λ z. back.behind_in a o z) (query_again r))
    (there_both (P (g.expr m) a) ((g.in_choices (g.expr m)).rule.prints.writes (o, inr r)) (operand a m h x) (queried_there o r m k y))

among_reached : (a : Term) (r : Option (Option (Unit {0}) × Choices)) → Reached a → If (λ z. Unit {0} × ChoicesReached z.1) r → Reached (values.among a r)
among_reached a None x y = x
among_reached a (Some (None, inl xs)) x y =
    own_reached (InList a (terms_of xs)) (λ m k. there_both (P (g.expr m) a) ((g.in_choices (g.expr m)).rule.prints.writes (None, inl (back.list_of (terms_of xs)))) (operand a m (omega (arith, k)) x) (listed_there None xs m (omega (arith, k)) y.1))
among_reached a (Some (Some z, inl xs)) x y =
    own_reached (NotInList a (terms_of xs)) (λ m k. there_both (P (g.expr m) a) ((g.in_choices (g.expr m)).rule.prints.writes (Some tt, inl (back.list_of (terms_of xs)))) (operand a m (omega (arith, k)) x) (listed_there (Some tt) xs m (omega (arith, k)) y.1))
among_reached a (Some (None, inr r)) x y = own_reached (InSubquery a (values.query_of r)) (λ m k. let high = condition_high r in within_there None a r m (omega (arith, k)) (omega (arith, k, high)) x y.1)
among_reached a (Some (Some z, inr r)) x y = own_reached (NotInSubquery a (values.query_of r)) (λ m k. let high = condition_high r in within_there (Some tt) a r m (omega (arith, k)) (omega (arith, k, high)) x y.1)

-- ---- comparisons, IS NULL, NOT

comparison_there : (how : Comparison) → There (g.comparison.prints.writes how)
unfolding g.comparison
comparison_there Comparison.Equal = tt
comparison_there Comparison.NotEqual = tt
comparison_there Comparison.Less = tt
comparison_there Comparison.LessOrEqual = tt
comparison_there Comparison.Greater = tt
comparison_there Comparison.GreaterOrEqual = tt

compared_reached : (a : Term) (r : Option (Comparison × Term)) → Reached a → If (λ z. Unit {0} × Reached z.1) r → Reached (values.compared a r)
compared_reached a None x y = x
compared_reached a (Some (how, b)) x y =
    own_reached (Compare how a b)
    (λ m k.
    there_both (P (g.expr m) a) (joined (g.comparison.prints.writes how) (P (g.expr m) b)) (operand a m (omega (arith, k)) x)
    (there_both (g.comparison.prints.writes how) (P (g.expr m) b) (comparison_there how) (operand b m (omega (arith, k)) y.1)))

null_reached : (a : Term) (o : Option (Unit {0})) → Reached a → Reached (values.null_test a o)
unfolding g.null_test
null_reached a None x = own_reached (IsNull a) (λ m k. there_both (P (g.expr m) a) (many_writes g.null_test.spells g.null_test.prints (None ∷ [])) (operand a m (omega (arith, k)) x) tt)
null_reached a (Some z) x = own_reached (IsNotNull a) (λ m k. there_both (P (g.expr m) a) (many_writes g.null_test.spells g.null_test.prints (Some tt ∷ [])) (operand a m (omega (arith, k)) x) tt)

tested_reached : (a : Term) (tests : List (Option (Unit {0}))) → Reached a → Reached (put_in values.null_test a tests)
tested_reached a [] x = x
tested_reached a (test ∷ tests) x = tested_reached (values.null_test a test) tests (null_reached a test x)

not_reached : (a : Term) → Reached a → Reached (Not a)
unfolding g.nots
not_reached a x = own_reached (Not a) (λ m k. there_both (g.nots.prints.writes 1) (P (g.expr m) a) tt (operand a m (omega (arith, k)) x))

negated_reached : (n : ℕ) (a : Term) → Reached a → Reached (values.negated n a)
negated_reached zero a x = x
negated_reached (suc n) a x = negated_reached n (Not a) (not_reached a x)

-- ---- AND, OR

further_and : (xs : List Term) (m : ℕ) → heights (terms_of xs) ≤ m → Each Reached xs → There (many_writes (g.and_next (g.expr m)).rule.spells (g.and_next (g.expr m)).rule.prints xs)
unfolding g.and_next
further_and [] m h r = tt
further_and (x ∷ xs) m h r =
    there_both (joined (Some (t.Word (codes "and") ∷ [])) (P (g.expr m) x)) (many_writes (g.and_next (g.expr m)).rule.spells (g.and_next (g.expr m)).rule.prints xs)
    (there_both (Some (t.Word (codes "and") ∷ [])) (P (g.expr m) x) tt (operand x m (omega (arith, h)) r.0)) (further_and xs m (omega (arith, h)) r.1)

further_or : (xs : List Term) (m : ℕ) → heights (terms_of xs) ≤ m → Each Reached xs → There (many_writes (g.or_next (g.expr m)).rule.spells (g.or_next (g.expr m)).rule.prints xs)
unfolding g.or_next
further_or [] m h r = tt
further_or (x ∷ xs) m h r =
    there_both (joined (Some (t.Word (codes "or") ∷ [])) (P (g.expr m) x)) (many_writes (g.or_next (g.expr m)).rule.spells (g.or_next (g.expr m)).rule.prints xs)
    (there_both (Some (t.Word (codes "or") ∷ [])) (P (g.expr m) x) tt (operand x m (omega (arith, h)) r.0)) (further_or xs m (omega (arith, h)) r.1)

operands_again : (x y : Term) (xs : List Term) → back.as_operands (terms_of (x ∷ y ∷ xs)) ≡ Some (x, y ∷ xs)
operands_again x y xs = ap (λ z. Some (x, y ∷ z)) (list_again xs)

and_reached : (x : Term) (xs : List Term) → Reached x → Each Reached xs → Reached (values.and_of x xs)
and_reached x [] a r = a
and_reached x (y ∷ ys) a r =
    own_reached (And (terms_of (x ∷ y ∷ ys)))
    (λ m k.
    there_of (λ z. joined (P (g.expr m) z.0) (many_writes (g.and_next (g.expr m)).rule.spells (g.and_next (g.expr m)).rule.prints z.1)) (back.as_operands (terms_of (x ∷ y ∷ ys))) (x, y ∷ ys) (operands_again x y ys)
    (there_both (P (g.expr m) x) (many_writes (g.and_next (g.expr m)).rule.spells (g.and_next (g.expr m)).rule.prints (y ∷ ys)) (operand x m (omega (arith, k)) a) (further_and (y ∷ ys) m (omega (arith, k)) r)))

or_reached : (x : Term) (xs : List Term) → Reached x → Each Reached xs → Reached (values.or_of x xs)
or_reached x [] a r = a
or_reached x (y ∷ ys) a r =
    own_reached (Or (terms_of (x ∷ y ∷ ys)))
    (λ m k.
    there_of (λ z. joined (P (g.expr m) z.0) (many_writes (g.or_next (g.expr m)).rule.spells (g.or_next (g.expr m)).rule.prints z.1)) (back.as_operands (terms_of (x ∷ y ∷ ys))) (x, y ∷ ys) (operands_again x y ys)
    (there_both (P (g.expr m) x) (many_writes (g.or_next (g.expr m)).rule.spells (g.or_next (g.expr m)).rule.prints (y ∷ ys)) (operand x m (omega (arith, k)) a) (further_or (y ∷ ys) m (omega (arith, k)) r)))

pub condition_there : (a : Option Term) (n : ℕ) → height_if a ≤ n → If Reached a → There ((g.condition (g.expr n)).rule.prints.writes a)
unfolding g.condition
condition_there None n h r = tt
condition_there (Some x) n h r = there_both (Some (t.Word (codes "where") ∷ [])) (w (g.expr n) x) tt (r.within n h)

-- ---- what each level spells

module _ (inner : Cut tree_of expr_heads expr_more false) (ih : Says inner.rule.spells Reached) where
  pub condition_says : Says (g.condition inner).rule.spells (If Reached)
  unfolding g.condition
  condition_says = perhaps_says _ Reached (after_says (only (t.Word (codes "where"))) inner.rule.spells Reached ih)

  pub select_says : Says (g.select_parts inner).rule.spells SelectReached
  unfolding g.select_parts
  select_says = record {
    says = λ ts r h.
        let x = h.spelled in
        let y = x.other in
        let parts : SelectReached h.source.1 = record {
          within = λ n k.
              there_both (Some (t.Word (codes "select") ∷ [])) (joined (g.items.prints.writes h.source.1.0) (joined (g.from_table.prints.writes h.source.1.1.0) ((g.condition (g.expr n)).rule.prints.writes h.source.1.1.1))) tt
              (there_both (g.items.prints.writes h.source.1.0) (joined (g.from_table.prints.writes h.source.1.1.0) ((g.condition (g.expr n)).rule.prints.writes h.source.1.1.1)) (items_full.written y.front h.source.1.0 y.one)
              (there_both (g.from_table.prints.writes h.source.1.1.0) ((g.condition (g.expr n)).rule.prints.writes h.source.1.1.1) (from_full.written y.other.front h.source.1.1.0 y.other.one)
              (condition_there h.source.1.1.1 n k (condition_says.says y.other.rest h.source.1.1.1 y.other.other))));
        } in
        subst SelectReached (sym h.value) parts;
  }

  prim_says : Says (g.prim inner).rule.spells Reached
  unfolding g.prim g.enclosed g.exists g.scalar
  prim_says = either_says _ _ Reached item_reached
      (either_says _ _ Reached
      (mapped_says (λ r. Exists (values.query_of r)) _ SelectReached Reached exists_reached (after_says (only (t.Word (codes "exists"))) _ SelectReached (enclosed_says (g.select_parts inner).rule.spells SelectReached select_says)))
      (enclosed_says _ Reached (either_says _ _ Reached (mapped_says (λ r. Scalar (values.query_of r)) (g.select_parts inner).rule.spells SelectReached Reached scalar_reached select_says) ih)))

  sum_says : Says (g.sum inner).rule.spells Reached
  unfolding g.sum g.sum_next
  sum_says =
      mapped_says (λ r. values.sum_of r.0 r.1) _ (λ r. Reached r.0 × Each (λ x. Unit {0} × Reached x.1) r.1) Reached (λ r h. sum_reached r.0 r.1 h.0 h.1)
      (both_say _ _ Reached (Each (λ x. Unit {0} × Reached x.1)) prim_says (many_say _ (λ x. Unit {0} × Reached x.1) (both_say _ _ (λ a. Unit {0}) Reached (nothing_said _) prim_says)))

  pub parts_say : Says (g.parts inner).rule.spells PartsReached
  unfolding g.parts cut.with_comma
  parts_say =
      mapped_says (λ r. r.0 ∷ r.1) (Both inner.rule.spells (Many (After (only (t.Symbol s.Comma)) inner.rule.spells))) (λ r. Reached r.0 × Each Reached r.1) PartsReached (λ r h. h)
      (both_say inner.rule.spells (Many (After (only (t.Symbol s.Comma)) inner.rule.spells)) Reached (Each Reached) ih (many_say (After (only (t.Symbol s.Comma)) inner.rule.spells) Reached (after_says (only (t.Symbol s.Comma)) inner.rule.spells Reached ih)))

  choices_say : Says (g.enclosed_choices inner).rule.spells ChoicesReached
  unfolding g.enclosed_choices g.choices
  choices_say =
      enclosed_says _ ChoicesReached (either_says _ _ ChoicesReached (mapped_says (λ r. inr r) (g.select_parts inner).rule.spells SelectReached ChoicesReached (λ r h. h) select_says)
      (mapped_says (λ xs. inl xs) (g.parts inner).rule.spells PartsReached ChoicesReached (λ xs h. h) parts_say))

  memb_says : Says (g.memb inner).rule.spells Reached
  unfolding g.memb g.in_choices
  memb_says =
      mapped_says (λ r. values.among r.0 r.1) _ (λ r. Reached r.0 × If (λ z. Unit {0} × ChoicesReached z.1) r.1) Reached (λ r h. among_reached r.0 r.1 h.0 h.1)
      (both_say _ _ Reached (If (λ z. Unit {0} × ChoicesReached z.1)) sum_says (perhaps_says _ (λ z. Unit {0} × ChoicesReached z.1) (both_say _ _ (λ a. Unit {0}) ChoicesReached (nothing_said _) choices_say)))

  cmp_says : Says (g.cmp inner).rule.spells Reached
  unfolding g.cmp
  cmp_says =
      mapped_says (λ r. values.compared r.0 r.1) _ (λ r. Reached r.0 × If (λ z. Unit {0} × Reached z.1) r.1) Reached (λ r h. compared_reached r.0 r.1 h.0 h.1)
      (both_say _ _ Reached (If (λ z. Unit {0} × Reached z.1)) memb_says (perhaps_says _ (λ z. Unit {0} × Reached z.1) (both_say _ _ (λ a. Unit {0}) Reached (nothing_said _) memb_says)))

  is_says : Says (g.is inner).rule.spells Reached
  unfolding g.is
  is_says =
      mapped_says (λ r. put_in values.null_test r.0 r.1) _ (λ r. Reached r.0 × Unit {0}) Reached (λ r h. tested_reached r.0 r.1 h.0)
      (both_say _ _ Reached (λ a. Unit {0}) cmp_says (nothing_said _))

  not_says : Says (g.not_ inner).rule.spells Reached
  unfolding g.not_
  not_says =
      mapped_says (λ r. values.negated r.0 r.1) _ (λ r. Unit {0} × Reached r.1) Reached (λ r h. negated_reached r.0 r.1 h.1)
      (both_say _ _ (λ a. Unit {0}) Reached (nothing_said _) is_says)

  and_says : Says (g.and inner).rule.spells Reached
  unfolding g.and g.and_next
  and_says =
      mapped_says (λ r. values.and_of r.0 r.1) _ (λ r. Reached r.0 × Each Reached r.1) Reached (λ r h. and_reached r.0 r.1 h.0 h.1)
      (both_say _ _ Reached (Each Reached) not_says (many_say _ Reached (after_says (only (t.Word (codes "and"))) _ Reached not_says)))

  or_says : Says (g.or inner).rule.spells Reached
  unfolding g.or g.or_next
  or_says =
      mapped_says (λ r. values.or_of r.0 r.1) _ (λ r. Reached r.0 × Each Reached r.1) Reached (λ r h. or_reached r.0 r.1 h.0 h.1)
      (both_say _ _ Reached (Each Reached) and_says (many_say _ Reached (after_says (only (t.Word (codes "or"))) _ Reached and_says)))

-- What is spelled at some depth is written at each depth from its height on.
pub expr_says : (d : ℕ) → Says (g.expr d).rule.spells Reached
unfolding g.expr
expr_says zero = record { says = λ ts x h. absurd h }
expr_says (suc d) = or_says (g.expr d) (expr_says d)

-- words that are written for the expression
pub record ExprWritten (x : Term) : Type 0 where
  pub tokens : List Token
  pub written : (g.expr (height x)).rule.prints.writes x ≡ Some tokens

-- What some text spells is written.
pub expr_written : (d : ℕ) (x : Term) (ts : List Token) → (g.expr d).rule.spells ts x → ExprWritten x
expr_written d x ts h = go ((g.expr (height x)).rule.prints.writes x) refl (((expr_says d).says ts x h).within (height x) (le_refl (height x)))
  where
    go : (o : Option (List Token)) → (g.expr (height x)).rule.prints.writes x ≡ o → There o → ExprWritten x
    go None e k = absurd k
    go (Some us) e k = record { tokens = us; written = e }
