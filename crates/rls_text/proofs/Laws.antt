-- Laws of the grammar: with more room for parentheses the same is spelled, and a text spells one statement at most.
use Rattle.std.specs.Prelude.{◌≡◌, ℕ, zero, suc, ◌+◌, ◌≤◌, ◌<◌, Bool, true, false, List, [], ◌∷◌, ◌++◌, length, Option, Some, None, Result, Ok, Err, IfOk, refl, nat_lt, if◌then◌else◌}
use Rattle.std.proofs.Common.{arith, sym, ◌∙◌, ap, subst, inl, inr, length-append}
use Rattle.rls_text.specs.{declared.token.Token.Token, Trees.TreeWithDepth, Heights.height_of, Nested.subqueries_of, Writes.some_is, Cut.Cut, Parses.found, Parses.and_then, Cutting.tree_of, Cutting.tree_with_depth_of, FirstSets.expr_heads, FirstSets.expr_more, Gives.finished, Gives.whole_of, Gives.within_limits, Gives.answered, Gives.unless_over, Gives.answer_of, ParseResults.IsParseResult, ParseResults.IsSpelled, ParseResults.first_limit, ParseResults.limited, ParseResults.columns_of, Lang.only, Lang.Both, Lang.Mapped, Lang.Either, Lang.Perhaps, Lang.Many, Lang.Checked, Lang.After, Lang.Before}
use Rattle.std.proofs.lemmas.Bool.{ltb-true, ltb-false, lt-ltb, le-ltb}
use Rattle.rls_text.specs.Cut as cut
use Rattle.rls_text.proofs.CuttingLaws.{tree_with_depth_low, tree_with_depth_high}
use Rattle.rls_statement.specs.declared.statement.Statement.TheVariants as st
use Rattle.rls_text.specs.Grammar as g
use Rattle.rls_statement.specs.declared.statement.Statement.{Statement}
use Rattle.rls_value.specs.{declared.refusal.Limit.Limit, declared.refusal.Refusal.Refusal}
use Rattle.rls_value.specs.declared.refusal.Limit.TheVariants as l
use Rattle.rls_value.specs.declared.refusal.Refusal.TheVariants as refusal

-- what p spells with at most k tokens, q spells too
pub record Within {A : Type 0} (k : ℕ) (p q : List Token → A → Type 0) : Type 0 where
  pub take : (ts : List Token) (a : A) → length ts ≤ k → p ts a → q ts a

same_lang : {A : Type 0} (k : ℕ) (p : List Token → A → Type 0) → Within k p p
same_lang k p = record { take = λ ts a h x. x }

module _ {A B : Type 0} (k : ℕ) (p p' : List Token → A → Type 0) (q q' : List Token → B → Type 0) where
  both_within : Within k p p' → Within k q q' → Within k (Both p q) (Both p' q')
  both_within P Q = record {
    take = λ ts a h x.
        let size : length ts ≡ length x.front + length x.rest = ap length x.split ∙ length-append x.front x.rest in
        record { front = x.front; rest = x.rest; split = x.split; one = P.take x.front a.0 (omega arith) x.one; other = Q.take x.rest a.1 (omega arith) x.other };
  }

module _ {A B : Type 0} (k : ℕ) (f : A → B) (p p' : List Token → A → Type 0) where
  mapped_within : Within k p p' → Within k (Mapped f p) (Mapped f p')
  mapped_within P = record { take = λ ts a h x. record { source = x.source; spelled = P.take ts x.source h x.spelled; value = x.value } }

module _ {A : Type 0} (k : ℕ) (p p' q q' : List Token → A → Type 0) where
  either_within : Within k p p' → Within k q q' → Within k (Either p q) (Either p' q')
  either_within P Q = record { take = λ ts a h x. elim x [ inl y ↦ inl (P.take ts a h y) | inr y ↦ inr (Q.take ts a h y) ] }

module _ {A : Type 0} (k : ℕ) (p p' : List Token → A → Type 0) (P : Within k p p') where
  perhaps_take : (ts : List Token) (a : Option A) → length ts ≤ k → Perhaps p ts a → Perhaps p' ts a
  perhaps_take ts None h x = x
  perhaps_take ts (Some a) h x = P.take ts a h x

  perhaps_within : Within k (Perhaps p) (Perhaps p')
  perhaps_within = record { take = perhaps_take }

  many_take : (ts : List Token) (a : List A) → length ts ≤ k → Many p ts a → Many p' ts a
  many_take ts [] h x = x
  many_take ts (a ∷ more) h x =
      let size : length ts ≡ length x.0 + length x.1 = ap length x.2 ∙ length-append x.0 x.1 in
      (x.0, x.1, x.2, P.take x.0 a (omega arith) x.3, many_take x.1 more (omega arith) x.4)

  many_within : Within k (Many p) (Many p')
  many_within = record { take = many_take }

-- behind a token there are fewer
module _ {B : Type 0} (t : Token) (k : ℕ) (q q' : List Token → B → Type 0) where
  shorter_take : ((j : ℕ) → j < k → Within j q q') → (ts : List Token) (b : B) → length ts ≤ k → After (only t) q ts b → After (only t) q' ts b
  shorter_take Q ts b h x =
      let y = x.spelled in
      let size : length ts ≡ length y.front + length y.rest = ap length y.split ∙ length-append y.front y.rest in
      let one : length y.front ≡ 1 = ap length y.one in
      record { source = x.source; value = x.value; spelled = record { front = y.front; rest = y.rest; split = y.split; one = y.one; other = (Q (length y.rest) (omega arith)).take y.rest x.source.1 (omega arith) y.other } }

  shorter_within : ((j : ℕ) → j < k → Within j q q') → Within k (After (only t) q) (After (only t) q')
  shorter_within Q = record { take = shorter_take Q }

module _ {A B : Type 0} (k : ℕ) (p : List Token → A → Type 0) (q q' : List Token → B → Type 0) where
  after_within : Within k q q' → Within k (After p q) (After p q')
  after_within Q = mapped_within k _ _ _ (both_within k p p q q' (same_lang k p) Q)

  before_within : Within k q q' → Within k (Before q p) (Before q' p)
  before_within Q = mapped_within k _ _ _ (both_within k q q' p p Q (same_lang k p))

module _ {A : Type 0} (k : ℕ) (test : A → Bool) (p p' : List Token → A → Type 0) where
  checked_within : Within k p p' → Within k (Checked test p) (Checked test p')
  checked_within P = record { take = λ ts a h x. record { spelled = P.take ts a h x.spelled; passes = x.passes } }

module _ (k : ℕ) (i i' : Cut tree_of expr_heads expr_more false) (I : Within k i.rule.spells i'.rule.spells) where
  parts_within : Within k (g.parts i).rule.spells (g.parts i').rule.spells
  unfolding g.parts cut.with_comma
  parts_within = mapped_within k _ _ _ (both_within k _ _ _ _ I (many_within k _ _ (after_within k _ _ _ I)))

  tuple_within : Within k (g.tuple i).rule.spells (g.tuple i').rule.spells
  unfolding g.tuple
  tuple_within = after_within k _ _ _ (before_within k _ _ _ parts_within)

  condition_within : Within k (g.condition i).rule.spells (g.condition i').rule.spells
  unfolding g.condition
  condition_within = perhaps_within k _ _ (after_within k _ _ _ I)

  select_parts_within : Within k (g.select_parts i).rule.spells (g.select_parts i').rule.spells
  unfolding g.select_parts
  select_parts_within = after_within k _ _ _ (both_within k _ _ _ _ (same_lang k _) (both_within k _ _ _ _ (same_lang k _) condition_within))

  enclosed_within : Within k (g.enclosed i).rule.spells (g.enclosed i').rule.spells
  unfolding g.enclosed g.scalar
  enclosed_within = either_within k _ _ _ _ (mapped_within k _ _ _ select_parts_within) I

  choices_within : Within k (g.choices i).rule.spells (g.choices i').rule.spells
  unfolding g.choices
  choices_within = either_within k _ _ _ _ (mapped_within k _ _ _ select_parts_within) (mapped_within k _ _ _ parts_within)

module _ (k : ℕ) (i i' : Cut tree_of expr_heads expr_more false) (I : (j : ℕ) → j < k → Within j i.rule.spells i'.rule.spells) where
  exists_within : Within k (g.exists i).rule.spells (g.exists i').rule.spells
  unfolding g.exists
  exists_within = mapped_within k _ _ _ (shorter_within _ k _ _ (λ j h. after_within j _ _ _ (before_within j _ _ _ (select_parts_within j i i' (I j h)))))

  pub prim_within : Within k (g.prim i).rule.spells (g.prim i').rule.spells
  unfolding g.prim
  prim_within = either_within k _ _ _ _ (same_lang k _) (either_within k _ _ _ _ exists_within (shorter_within _ k _ _ (λ j h. before_within j _ _ _ (enclosed_within j i i' (I j h)))))

  sum_within : Within k (g.sum i).rule.spells (g.sum i').rule.spells
  unfolding g.sum g.sum_next
  sum_within = mapped_within k _ _ _ (both_within k _ _ _ _ prim_within (many_within k _ _ (both_within k _ _ _ _ (same_lang k _) prim_within)))

  enclosed_choices_within : Within k (g.enclosed_choices i).rule.spells (g.enclosed_choices i').rule.spells
  unfolding g.enclosed_choices
  enclosed_choices_within = shorter_within _ k _ _ (λ j h. before_within j _ _ _ (choices_within j i i' (I j h)))

  memb_within : Within k (g.memb i).rule.spells (g.memb i').rule.spells
  unfolding g.memb g.in_choices
  memb_within = mapped_within k _ _ _ (both_within k _ _ _ _ sum_within (perhaps_within k _ _ (both_within k _ _ _ _ (same_lang k _) enclosed_choices_within)))

  cmp_within : Within k (g.cmp i).rule.spells (g.cmp i').rule.spells
  unfolding g.cmp
  cmp_within = mapped_within k _ _ _ (both_within k _ _ _ _ memb_within (perhaps_within k _ _ (both_within k _ _ _ _ (same_lang k _) memb_within)))

  is_within : Within k (g.is i).rule.spells (g.is i').rule.spells
  unfolding g.is
  is_within = mapped_within k _ _ _ (both_within k _ _ _ _ cmp_within (same_lang k _))

  not_within : Within k (g.not_ i).rule.spells (g.not_ i').rule.spells
  unfolding g.not_
  not_within = mapped_within k _ _ _ (both_within k _ _ _ _ (same_lang k _) is_within)

  and_within : Within k (g.and i).rule.spells (g.and i').rule.spells
  unfolding g.and g.and_next
  and_within = mapped_within k _ _ _ (both_within k _ _ _ _ not_within (many_within k _ _ (mapped_within k _ _ _ (both_within k _ _ _ _ (same_lang k _) not_within))))

  pub or_within : Within k (g.or i).rule.spells (g.or i').rule.spells
  unfolding g.or g.or_next
  or_within = mapped_within k _ _ _ (both_within k _ _ _ _ and_within (many_within k _ _ (mapped_within k _ _ _ (both_within k _ _ _ _ (same_lang k _) and_within))))

-- Parentheses are no deeper than there are tokens.
expr_within : (depth k : ℕ) → Within k (g.expr depth).rule.spells (g.expr (suc k)).rule.spells
unfolding g.expr
expr_within zero k = record { take = λ ts a h x. absurd x }
expr_within (suc depth) k = or_within k (g.expr depth) (g.expr k) (λ j h. go k j h (expr_within depth))
  where
    go : (k j : ℕ) → j < k → ((m : ℕ) → Within m (g.expr depth).rule.spells (g.expr (suc m)).rule.spells) → Within j (g.expr depth).rule.spells (g.expr k).rule.spells
    go zero j h again = absurd (omega arith)
    go (suc n) j h again = record { take = λ ts a k x. (again n).take ts a (omega arith) x }

module _ (k : ℕ) (i i' : Cut tree_of expr_heads expr_more false) (I : Within k i.rule.spells i'.rule.spells) where
  parenthesized_within : Within k (g.parenthesized i).rule.spells (g.parenthesized i').rule.spells
  unfolding g.parenthesized
  parenthesized_within = after_within k _ _ _ (before_within k _ _ _ I)

  select_within : Within k (g.select i).rule.spells (g.select i').rule.spells
  unfolding g.select
  select_within = mapped_within k _ _ _ (select_parts_within k i i' I)

  tuples_within : Within k (g.even_tuples i).rule.spells (g.even_tuples i').rule.spells
  unfolding g.even_tuples g.tuples cut.with_comma
  tuples_within = checked_within k _ _ _ (mapped_within k _ _ _ (both_within k _ _ _ _ (tuple_within k i i' I) (many_within k _ _ (after_within k _ _ _ (tuple_within k i i' I)))))

  rows_within : Within k (g.proper_rows i).rule.spells (g.proper_rows i').rule.spells
  unfolding g.proper_rows g.rows
  rows_within = checked_within k _ _ _ (both_within k _ _ _ _ (same_lang k _) (after_within k _ _ _ tuples_within))

  insert_within : Within k (g.insert i).rule.spells (g.insert i').rule.spells
  unfolding g.insert
  insert_within = mapped_within k _ _ _ (after_within k _ _ _ (after_within k _ _ _ (both_within k _ _ _ _ (same_lang k _) (both_within k _ _ _ _ rows_within (same_lang k _)))))

  set_column_within : Within k (g.set_column i).rule.spells (g.set_column i').rule.spells
  unfolding g.set_column
  set_column_within = mapped_within k _ _ _ (both_within k _ _ _ _ (same_lang k _) (after_within k _ _ _ I))

  set_columns_within : Within k (g.set_columns i).rule.spells (g.set_columns i').rule.spells
  unfolding g.set_columns g.all_set_columns cut.with_comma
  set_columns_within = checked_within k _ _ _ (mapped_within k _ _ _ (both_within k _ _ _ _ set_column_within (many_within k _ _ (after_within k _ _ _ set_column_within))))

  ending_within : Within k (g.ending i).rule.spells (g.ending i').rule.spells
  unfolding g.ending
  ending_within = both_within k _ _ _ _ (condition_within k i i' I) (same_lang k _)

  update_within : Within k (g.update i).rule.spells (g.update i').rule.spells
  unfolding g.update
  update_within = mapped_within k _ _ _ (after_within k _ _ _ (both_within k _ _ _ _ (same_lang k _) (after_within k _ _ _ (both_within k _ _ _ _ set_columns_within ending_within))))

  delete_within : Within k (g.delete i).rule.spells (g.delete i').rule.spells
  unfolding g.delete
  delete_within = mapped_within k _ _ _ (after_within k _ _ _ (after_within k _ _ _ (both_within k _ _ _ _ (same_lang k _) ending_within)))

  using_within : Within k (g.using i).rule.spells (g.using i').rule.spells
  unfolding g.using
  using_within = perhaps_within k _ _ (after_within k _ _ _ parenthesized_within)

  check_within : Within k (g.check i).rule.spells (g.check i').rule.spells
  unfolding g.check
  check_within = perhaps_within k _ _ (after_within k _ _ _ (after_within k _ _ _ parenthesized_within))

  conditions_within : Within k (g.conditions i).rule.spells (g.conditions i').rule.spells
  unfolding g.conditions
  conditions_within = both_within k _ _ _ _ using_within check_within

  description_within : Within k (g.proper_description i).rule.spells (g.proper_description i').rule.spells
  unfolding g.proper_description g.description
  description_within = checked_within k _ _ _ (both_within k _ _ _ _ (same_lang k _) (both_within k _ _ _ _ (same_lang k _) conditions_within))

  policy_within : Within k (g.policy i).rule.spells (g.policy i').rule.spells
  unfolding g.policy
  policy_within = mapped_within k _ _ _ (both_within k _ _ _ _ (same_lang k _) description_within)

  create_within : Within k (g.create i).rule.spells (g.create i').rule.spells
  unfolding g.create g.role g.table
  create_within = after_within k _ _ _ (either_within k _ _ _ _ (same_lang k _) (either_within k _ _ _ _ (same_lang k _) (either_within k _ _ _ _ (same_lang k _) (after_within k _ _ _ policy_within))))

  change_within : Within k (g.proper_change i).rule.spells (g.proper_change i').rule.spells
  unfolding g.proper_change g.policy_change
  change_within = checked_within k _ _ _ (both_within k _ _ _ _ (same_lang k _) conditions_within)

  altered_policy_within : Within k (g.altered_policy i).rule.spells (g.altered_policy i').rule.spells
  unfolding g.altered_policy
  altered_policy_within = mapped_within k _ _ _ (both_within k _ _ _ _ (same_lang k _) change_within)

  alter_within : Within k (g.alter i).rule.spells (g.alter i').rule.spells
  unfolding g.alter
  alter_within = after_within k _ _ _ (either_within k _ _ _ _ (same_lang k _) (either_within k _ _ _ _ (same_lang k _) (after_within k _ _ _ altered_policy_within)))

  body_within : Within k (g.body i).rule.spells (g.body i').rule.spells
  unfolding g.body
  body_within = either_within k _ _ _ _ select_within (either_within k _ _ _ _ insert_within (either_within k _ _ _ _ update_within (either_within k _ _ _ _ delete_within (either_within k _ _ _ _ create_within (either_within k _ _ _ _ alter_within (same_lang k _))))))

statement_within : (depth k : ℕ) → Within k (g.statement depth).rule.spells (g.statement (suc k)).rule.spells
unfolding g.statement
statement_within depth k = before_within k _ _ _ (body_within k (g.expr depth) (g.expr (suc k)) (expr_within depth k))

-- all of the tokens, read with enough depth
abbrev pub reading : List Token → Option (Statement × List Token)
reading ts = (g.statement (length ts + 1)).rule.parses.read ts

pub append_end : (ts : List Token) → ts ++ [] ≡ ts
append_end [] = refl
append_end (t ∷ ts) = ap (λ x. t ∷ x) (append_end ts)

-- What is read to the end is spelled.
pub reading_sound : (ts : List Token) (x : Statement) → reading ts ≡ Some (x, []) → g.Spells ts x
reading_sound ts x h =
    let f = (g.statement (length ts + 1)).rule.parses.sound ts [] x h in
    record { depth = length ts + 1; spelled = subst (λ z. (g.statement (length ts + 1)).rule.spells z x) (sym (f.split ∙ append_end f.front)) f.spelled }

-- What is spelled is read, to the end.
pub reading_complete : (ts : List Token) (x : Statement) → g.Spells ts x → reading ts ≡ Some (x, [])
reading_complete ts x h =
    let e : suc (length ts) ≡ length ts + 1 = omega arith in
    let y = subst (λ d. (g.statement d).rule.spells ts x) e ((statement_within h.depth (length ts)).take ts x (omega arith) h.spelled) in
    ap (λ z. (g.statement (length ts + 1)).rule.parses.read z) (sym (append_end ts)) ∙ (g.statement (length ts + 1)).rule.parses.complete ts [] x y refl

-- The tokens spell one statement at most.
pub one_statement : (ts : List Token) (x y : Statement) → g.Spells ts x → g.Spells ts y → x ≡ y
one_statement ts x y a b = (found (x, []) (y, []) (sym (reading_complete ts x a) ∙ reading_complete ts y b)).0

-- the whole is what the rule finds, as it is kept
abbrev pub finds : Option (Statement × List Token) → Option TreeWithDepth
finds o = finished (and_then o (λ x rest. Some (tree_with_depth_of x, rest)))

whole_is : (ts : List Token) → whole_of ts ≡ finds (reading ts)
unfolding whole_of
whole_is ts = ap finished ((g.statement (length ts + 1)).same ts)

-- the tree with its depth of a statement that is spelled
pub record IsTreeWithDepth (ts : List Token) (tree_with_depth : TreeWithDepth) : Type 0 where
  pub source : Statement
  pub spelled : g.Spells ts source
  pub kept : tree_with_depth ≡ tree_with_depth_of source

pub whole_found : (ts : List Token) (tree_with_depth : TreeWithDepth) → whole_of ts ≡ Some tree_with_depth → IsTreeWithDepth ts tree_with_depth
whole_found ts tree_with_depth h = go (reading ts) refl (sym (whole_is ts) ∙ h)
  where
    go : (o : Option (Statement × List Token)) → reading ts ≡ o → finds o ≡ Some tree_with_depth → IsTreeWithDepth ts tree_with_depth
    go None e h = cc
    go (Some (x, [])) e h = record { source = x; spelled = reading_sound ts x e; kept = sym (some_is (tree_with_depth_of x) tree_with_depth h) }
    go (Some (x, t ∷ rest)) e h = cc

pub whole_spelled : (ts : List Token) (x : Statement) → g.Spells ts x → whole_of ts ≡ Some (tree_with_depth_of x)
whole_spelled ts x h = whole_is ts ∙ ap finds (reading_complete ts x h)

columns_kept : (x : Statement) → columns_of (tree_with_depth_of x).0 ≡ columns_of x
columns_kept (st.Select x) = refl
columns_kept (st.Insert x) = refl
columns_kept (st.Update x) = refl
columns_kept (st.Delete x) = refl
columns_kept (st.CreatePolicy x) = refl
columns_kept (st.AlterPolicy x) = refl
columns_kept (st.DropPolicy x) = refl
columns_kept (st.CreateRole x) = refl
columns_kept (st.CreateTable x) = refl
columns_kept (st.AlterTable x) = refl
columns_kept (st.Grant x) = refl
columns_kept (st.AlterRole x) = refl
columns_kept (st.GrantRoles x) = refl
columns_kept (st.Revoke x) = refl
columns_kept (st.RevokeRoles x) = refl
columns_kept (st.SetRole x) = refl
columns_kept (st.Transaction x) = refl

-- A tree with its depth is over the limits exactly where its statement is.
pub limits_kept : (x : Statement) → within_limits (tree_with_depth_of x) ≡ limited x
limits_kept x = rw (columns_kept x) (go (nat_lt 64 (columns_of x)) (nat_lt 64 (tree_with_depth_of x).1) refl)
  where
    go : (a b : Bool) → nat_lt 64 (tree_with_depth_of x).1 ≡ b
        → if◌then◌else◌ {A = Result Statement Refusal} a (Err (refusal.Limit l.Columns)) (if◌then◌else◌ {A = Result Statement Refusal} b (Err (refusal.Limit l.Nesting)) (if◌then◌else◌ {A = Result Statement Refusal} (nat_lt 8 (subqueries_of (tree_with_depth_of x).0)) (Err (refusal.Limit l.Subqueries)) (Ok (tree_with_depth_of x).0)))
        ≡ if◌then◌else◌ {A = Result Statement Refusal} a (Err (refusal.Limit l.Columns)) (if◌then◌else◌ {A = Result Statement Refusal} (nat_lt 64 (height_of x)) (Err (refusal.Limit l.Nesting)) (if◌then◌else◌ {A = Result Statement Refusal} (nat_lt 8 (subqueries_of x)) (Err (refusal.Limit l.Subqueries)) (Ok x)))
    go true b e = refl
    go false true e =
        let over : nat_lt 64 (height_of x) ≡ true = lt-ltb 64 (height_of x) (tree_with_depth_high x (ltb-true 64 (tree_with_depth_of x).1 e)) in
        rw over refl
    go false false e =
        let low : (tree_with_depth_of x).1 ≤ 64 = ltb-false 64 (tree_with_depth_of x).1 e in
        let same = tree_with_depth_low x low in
        let under : nat_lt 64 (height_of x) ≡ false = le-ltb 64 (height_of x) (omega (arith, low, same.1)) in
        rw (under, same.0) refl

-- What is found is the answer.
pub is_answer : (ts : List Token) → IsParseResult ts (answer_of ts)
is_answer ts = record {
  over = λ limit h. ap (λ z. unless_over z (answered (whole_of ts))) h;
  spelled = λ x h s. ap (λ z. unless_over z (answered (whole_of ts))) h ∙ ap answered (whole_spelled ts x s) ∙ limits_kept x;
  unspelled = λ h none. ap (λ z. unless_over z (answered (whole_of ts))) h ∙ ap answered (never (whole_of ts) refl none);
}
  where
    never : (o : Option TreeWithDepth) → whole_of ts ≡ o → ((x : Statement) → g.Spells ts x → ⊥) → o ≡ None
    never None e none = refl
    never (Some tree_with_depth) e none = let f = whole_found ts tree_with_depth e in absurd (none f.source f.spelled)

-- what is limited is the statement itself
pub kept : (x y : Statement) → limited x ≡ Ok y → x ≡ y
kept x y h = go (nat_lt 64 (columns_of x)) (nat_lt 64 (height_of x)) (nat_lt 8 (subqueries_of x)) h
  where
    go : (a b c : Bool) → (if◌then◌else◌ {A = Result Statement Refusal} a (Err (refusal.Limit l.Columns)) (if◌then◌else◌ {A = Result Statement Refusal} b (Err (refusal.Limit l.Nesting)) (if◌then◌else◌ {A = Result Statement Refusal} c (Err (refusal.Limit l.Subqueries)) (Ok x)))) ≡ Ok y → x ≡ y
    go true b c h = cc
    go false true c h = cc
    go false false true h = cc
    go false false false h = cc

-- A statement that is the answer is spelled.
pub answer_spelled : (ts : List Token) (x : Statement) → answer_of ts ≡ Ok x → IsSpelled ts x
answer_spelled ts x h = go (first_limit ts) (whole_of ts) refl refl h
  where
    go : (a : Option Limit) (b : Option TreeWithDepth) → first_limit ts ≡ a → whole_of ts ≡ b → unless_over a (answered b) ≡ Ok x → IsSpelled ts x
    go (Some limit) b p q h = absurd (cc)
    go None None p q h = absurd (cc)
    go None (Some tree_with_depth) p q h =
        let f = whole_found ts tree_with_depth q in
        let e : limited f.source ≡ Ok x = sym (limits_kept f.source) ∙ ap within_limits (sym f.kept) ∙ h in
        let s = kept f.source x e in
        record { spelled = subst (λ z. g.Spells ts z) s f.spelled; words = p; within = subst (λ z. limited z ≡ Ok x) s e }

pub ok_spelled : (r : Result Statement Refusal) (ts : List Token) → (¬ (r ≡ Err refusal.NoMemory) → r ≡ answer_of ts) → IfOk r (λ x. IsSpelled ts x)
ok_spelled (Ok x) ts h = answer_spelled ts x (sym (h (λ e. absurd (cc))))
ok_spelled (Err e) ts h = tt

-- A statement that is within the limits is no higher than 64.
pub spelled_low : (ts : List Token) (x : Statement) → IsSpelled ts x → height_of x ≤ 64
spelled_low ts x h = go (nat_lt 64 (columns_of x)) (nat_lt 64 (height_of x)) (nat_lt 8 (subqueries_of x)) refl h.within
  where
    go : (a b c : Bool) → nat_lt 64 (height_of x) ≡ b
        → if◌then◌else◌ {A = Result Statement Refusal} a (Err (refusal.Limit l.Columns)) (if◌then◌else◌ {A = Result Statement Refusal} b (Err (refusal.Limit l.Nesting)) (if◌then◌else◌ {A = Result Statement Refusal} c (Err (refusal.Limit l.Subqueries)) (Ok x))) ≡ Ok x → height_of x ≤ 64
    go true b c p e = absurd (cc)
    go false true c p e = absurd (cc)
    go false false c p e = ltb-false 64 (height_of x) p

pub ok_low : (r : Result Statement Refusal) (ts : List Token) → IfOk r (λ x. IsSpelled ts x) → IfOk r (λ x. height_of x ≤ 64)
ok_low (Ok x) ts h = spelled_low ts x h
ok_low (Err e) ts h = tt

-- No more than 8 subqueries lie one inside another in it.
pub spelled_few : (ts : List Token) (x : Statement) → IsSpelled ts x → subqueries_of x ≤ 8
spelled_few ts x h = go (nat_lt 64 (columns_of x)) (nat_lt 64 (height_of x)) (nat_lt 8 (subqueries_of x)) refl h.within
  where
    go : (a b c : Bool) → nat_lt 8 (subqueries_of x) ≡ c
        → if◌then◌else◌ {A = Result Statement Refusal} a (Err (refusal.Limit l.Columns)) (if◌then◌else◌ {A = Result Statement Refusal} b (Err (refusal.Limit l.Nesting)) (if◌then◌else◌ {A = Result Statement Refusal} c (Err (refusal.Limit l.Subqueries)) (Ok x))) ≡ Ok x → subqueries_of x ≤ 8
    go true b c p e = absurd (cc)
    go false true c p e = absurd (cc)
    go false false true p e = absurd (cc)
    go false false false p e = ltb-false 8 (subqueries_of x) p

pub ok_few : (r : Result Statement Refusal) (ts : List Token) → IfOk r (λ x. IsSpelled ts x) → IfOk r (λ x. subqueries_of x ≤ 8)
ok_few (Ok x) ts h = spelled_few ts x h
ok_few (Err e) ts h = tt
