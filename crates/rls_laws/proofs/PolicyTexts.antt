-- Of which parts texts of CREATE POLICY and ALTER POLICY are, and that such parts make a text of CREATE POLICY.
use Rattle.std.specs.Prelude.{◌≡◌, refl, ℕ, zero, suc, ◌+◌, ◌≤◌, ◌<◌, max, List, [], ◌∷◌, ◌++◌, length, Bool, true, false, Option, Some, None, is_some, nat_lt, codes, ◌⊎◌}
use Rattle.std.proofs.Common.{arith, ap, sym, subst, ◌∙◌, inl, inr, append-nil, length-append}
use Rattle.std.proofs.lemmas.Bool.{le-ltb, true≢false}
use Rattle.rls_value.specs.declared.refusal.Limit.{Limit}
use Rattle.rls_expr.specs.{Terms.Term, Terms.maybe_term, declared.policy.Policy.Policy}
use Rattle.rls_statement.specs.{declared.statement.AlterPolicy.AlterPolicy, declared.statement.CreatePolicy.CreatePolicy, declared.statement.Statement.Statement}
use Rattle.rls_statement.specs.declared.statement.Statement.TheVariants as st
use Rattle.rls_audit.specs.rls_audit_lines.specs.rls_text.specs.{declared.token.Token.Token, declared.token.Token.TheVariants.Word, ParseResults.IsSpelled, ParseResults.limit_at, ParseResults.limit_from, ParseResults.open_behind, ParseResults.or_next, Cut.Cut, Cutting.tree_of, FirstSets.expr_heads, FirstSets.expr_more, Heights.height_if, Heights.height_of, Nested.deepest_query, Nested.subqueries_of, Lang.only, Lang.Both, Lang.Mapped, Lang.Perhaps, Lang.Checked, Lang.After, Lang.Before}
use Rattle.rls_audit.specs.rls_audit_lines.specs.rls_text.specs.Values as v
use Rattle.rls_audit.specs.rls_audit_lines.specs.rls_text.specs.Grammar as g
use Rattle.rls_audit.specs.rls_audit_lines.specs.rls_text.proofs.Laws.{Within, or_within, spelled_few, spelled_low}
use Rattle.rls_laws.proofs.Closing.{Closes, open_after, expr_closes, grantees_close, new_grantees_close, on_closes, options_close, using_closes, word_closes}

-- ---- limits on words

none_of_both : (one further : Option Limit) → or_next one further ≡ None → (one ≡ None) × (further ≡ None)
none_of_both (Some limit) further h = cc
none_of_both None further h = (refl, h)

-- two parts of what passes no limit pass none
apart_low : (unclosed : ℕ) (front rest : List Token) → limit_from unclosed (front ++ rest) ≡ None → (limit_from unclosed front ≡ None) × (limit_from (open_after unclosed front) rest ≡ None)
apart_low unclosed [] rest h = (refl, h)
apart_low unclosed (token ∷ front) rest h =
    let one = none_of_both (limit_at unclosed token) (limit_from (open_behind unclosed token) (front ++ rest)) h in
    let more = apart_low (open_behind unclosed token) front rest one.1 in
    (ap (λ limit. or_next limit (limit_from (open_behind unclosed token) front)) one.0 ∙ more.0, more.1)

-- nor do both together
together_low : (unclosed : ℕ) (front rest : List Token) → limit_from unclosed front ≡ None → limit_from (open_after unclosed front) rest ≡ None → limit_from unclosed (front ++ rest) ≡ None
together_low unclosed [] rest h k = k
together_low unclosed (token ∷ front) rest h k =
    let one = none_of_both (limit_at unclosed token) (limit_from (open_behind unclosed token) front) h in
    ap (λ limit. or_next limit (limit_from (open_behind unclosed token) (front ++ rest))) one.0 ∙ together_low (open_behind unclosed token) front rest one.1 k

-- ---- phrases

-- some words that pass no limit spell the value
pub record Phrase {A : Type 0} (p : List Token → A → Type 0) (a : A) : Type 0 where
  pub tokens : List Token
  pub spelled : p tokens a
  pub words : limit_from 0 tokens ≡ None

front_of : {A B : Type 0} (p : List Token → A → Type 0) (q : List Token → B → Type 0) (r : A × B) → Phrase (Both p q) r → Phrase p r.0
front_of p q r x =
    let y = x.spelled in
    record { tokens = y.front; spelled = y.one; words = (apart_low 0 y.front y.rest (ap (limit_from 0) (sym y.split) ∙ x.words)).0 }

rest_of : {A B : Type 0} (p : List Token → A → Type 0) (q : List Token → B → Type 0) (r : A × B) → Closes p → Phrase (Both p q) r → Phrase q r.1
rest_of p q r one x =
    let y = x.spelled in
    record {
      tokens = y.rest;
      spelled = y.other;
      words = ap (λ unclosed. limit_from unclosed y.rest) (sym (one.closes y.front r.0 y.one 0)) ∙ (apart_low 0 y.front y.rest (ap (limit_from 0) (sym y.split) ∙ x.words)).1;
    }

both_of : {A B : Type 0} (p : List Token → A → Type 0) (q : List Token → B → Type 0) (a : A) (b : B) → Closes p → Phrase p a → Phrase q b → Phrase (Both p q) (a, b)
both_of p q a b one x y = record {
  tokens = x.tokens ++ y.tokens;
  spelled = record { front = x.tokens; rest = y.tokens; split = refl; one = x.spelled; other = y.spelled };
  words = together_low 0 x.tokens y.tokens x.words (ap (λ unclosed. limit_from unclosed y.tokens) (one.closes x.tokens a x.spelled 0) ∙ y.words);
}

-- of what a value is made
record Made {A B : Type 0} (f : A → B) (p : List Token → A → Type 0) (b : B) : Type 0 where
  source : A
  phrase : Phrase p source
  value : b ≡ f source

source_of : {A B : Type 0} (f : A → B) (p : List Token → A → Type 0) (b : B) → Phrase (Mapped f p) b → Made f p b
source_of f p b x = record { source = x.spelled.source; phrase = record { tokens = x.tokens; spelled = x.spelled.spelled; words = x.words }; value = x.spelled.value }

pub mapped_of : {A B : Type 0} (f : A → B) (p : List Token → A → Type 0) (a : A) → Phrase p a → Phrase (Mapped f p) (f a)
mapped_of f p a x = record { tokens = x.tokens; spelled = record { source = a; spelled = x.spelled; value = refl }; words = x.words }

-- behind a word
behind_of : {B : Type 0} (w : List ℕ) (q : List Token → B → Type 0) (b : B) → Phrase (After (only (Word w)) q) b → Phrase q b
behind_of w q b x =
    let y = source_of (λ r. r.1) (Both (only (Word w)) q) b x in
    subst (λ z. Phrase q z) (sym y.value) (rest_of (only (Word w)) q y.source (word_closes w) y.phrase)

behind_word : {B : Type 0} (w : List ℕ) (q : List Token → B → Type 0) (b : B) → limit_from 0 (Word w ∷ []) ≡ None → Phrase q b → Phrase (After (only (Word w)) q) b
behind_word w q b short x = mapped_of (λ r. r.1) (Both (only (Word w)) q) (tt, b) (both_of (only (Word w)) q tt b (word_closes w) (record { tokens = Word w ∷ []; spelled = refl; words = short }) x)

-- ---- with more room for parentheses

module _ {A B : Type 0} (k : ℕ) (p p' : List Token → A → Type 0) (one : Within k p p') where
  after_within : (q : List Token → B → Type 0) → Within k (After q p) (After q p')
  after_within q = record {
    take = λ ts a h x.
        let y = x.spelled in
        let size : length ts ≡ length y.front + length y.rest = ap length y.split ∙ length-append y.front y.rest in
        record { source = x.source; value = x.value; spelled = record { front = y.front; rest = y.rest; split = y.split; one = y.one; other = one.take y.rest x.source.1 (omega arith) y.other } };
  }

  before_within : (q : List Token → B → Type 0) → Within k (Before p q) (Before p' q)
  before_within q = record {
    take = λ ts a h x.
        let y = x.spelled in
        let size : length ts ≡ length y.front + length y.rest = ap length y.split ∙ length-append y.front y.rest in
        record { source = x.source; value = x.value; spelled = record { front = y.front; rest = y.rest; split = y.split; one = one.take y.front x.source.0 (omega arith) y.one; other = y.other } };
  }

module _ {A : Type 0} (k : ℕ) (p p' : List Token → A → Type 0) (one : Within k p p') where
  perhaps_take : (ts : List Token) (a : Option A) → length ts ≤ k → Perhaps p ts a → Perhaps p' ts a
  perhaps_take ts None h x = x
  perhaps_take ts (Some a) h x = one.take ts a h x

  perhaps_within : Within k (Perhaps p) (Perhaps p')
  perhaps_within = record { take = perhaps_take }

expr_within : (depth k : ℕ) → Within k (g.expr depth).rule.spells (g.expr (suc k)).rule.spells
unfolding g.expr
expr_within zero k = record { take = λ ts a h x. absurd x }
expr_within (suc depth) k = or_within k (g.expr depth) (g.expr k) (λ j h. go k j h (expr_within depth))
  where
    go : (k j : ℕ) → j < k → ((m : ℕ) → Within m (g.expr depth).rule.spells (g.expr (suc m)).rule.spells) → Within j (g.expr depth).rule.spells (g.expr k).rule.spells
    go zero j h again = absurd (omega arith)
    go (suc n) j h again = record { take = λ ts a k x. (again n).take ts a (omega arith) x }

-- USING, and WITH CHECK, with parentheses to this depth
abbrev using_at : ℕ → List Token → Option Term → Type 0
using_at depth = (g.using (g.expr depth)).rule.spells

abbrev check_at : ℕ → List Token → Option Term → Type 0
check_at depth = (g.check (g.expr depth)).rule.spells

using_within : (depth k : ℕ) → Within k (using_at depth) (using_at (suc k))
unfolding g.using g.parenthesized
using_within depth k = perhaps_within k _ _ (after_within k _ _ (after_within k _ _ (before_within k _ _ (expr_within depth k) _) _) _)

check_within : (depth k : ℕ) → Within k (check_at depth) (check_at (suc k))
unfolding g.check g.parenthesized
check_within depth k = perhaps_within k _ _ (after_within k _ _ (after_within k _ _ (after_within k _ _ (before_within k _ _ (expr_within depth k) _) _) _) _)

roomier : {A : Type 0} (k : ℕ) (p q : List Token → A → Type 0) (a : A) → Within k p q → (x : Phrase p a) → length x.tokens ≤ k → Phrase q a
roomier k p q a more x short = record { tokens = x.tokens; spelled = more.take x.tokens a short x.spelled; words = x.words }

-- ---- the parts

-- a condition within the limits, at some depth of parentheses
pub record Condition (rule : ℕ → List Token → Option Term → Type 0) (condition : Option Term) : Type 0 where
  pub depth : ℕ
  pub phrase : Phrase (rule depth) condition
  pub low : height_if condition ≤ 64
  pub few : deepest_query (maybe_term condition) ≤ 8

-- those of CREATE POLICY
pub record PolicyParts (table : List ℕ) (policy : Policy) : Type 0 where
  pub on : Phrase g.policy_on.spells (policy.name, table)
  pub options : Phrase g.policy_options.spells (policy.permissive, policy.kind)
  pub to : Phrase g.for_grantees.spells policy.to
  pub using : Condition using_at policy.using
  pub check : Condition check_at policy.check
  pub fits : v.may_have policy.kind (is_some policy.using) (is_some policy.check) ≡ true

-- those of ALTER POLICY that change the policy
pub record ChangeParts (asked : AlterPolicy) : Type 0 where
  pub to : Phrase g.grantees_if_any.spells asked.to
  pub using : Condition using_at asked.using
  pub check : Condition check_at asked.check

-- ---- which statement a text spells

-- neither CREATE POLICY nor ALTER POLICY
abbrev is_other : Statement → Bool
is_other (st.CreatePolicy x) = false
is_other (st.AlterPolicy x) = false
is_other _ = true

abbrev Creates : Cut tree_of expr_heads expr_more false → List Token → Statement → Type 0
Creates i = After (only (Word (codes "create"))) (After (only (Word (codes "policy"))) (g.policy i).rule.spells)

abbrev Alters : Cut tree_of expr_heads expr_more false → List Token → Statement → Type 0
Alters i = After (only (Word (codes "alter"))) (After (only (Word (codes "policy"))) (g.altered_policy i).rule.spells)

flat_other : (ts : List Token) (x : Statement) → g.flat_body.spells ts x → is_other x ≡ true
unfolding g.flat_body g.dropped_policy g.grant g.granted_privileges g.granted_roles g.revoke g.revoked_privileges g.revoked_memberships g.revoked_option g.revoked_roles g.set_role
flat_other ts x h = elim h [
  | inl y ↦ ap is_other y.value
  | inr y ↦ elim y [
    | inl z ↦ ap is_other z.value ∙ elim z.spelled.other [ inl u ↦ ap is_other u.value | inr u ↦ ap is_other u.value ]
    | inr z ↦ elim z [
      | inl u ↦ ap is_other u.value ∙ elim u.spelled.other [ inl w ↦ ap is_other w.value | inr w ↦ elim w [ inl a ↦ ap is_other a.value | inr a ↦ ap is_other a.value ] ]
      | inr u ↦ ap is_other u.value
    ]
  ]
]

module _ (i : Cut tree_of expr_heads expr_more false) where
  create_is : (ts : List Token) (x : Statement) → (g.create i).rule.spells ts x → (is_other x ≡ true) ⊎ Creates i ts x
  unfolding g.create g.role g.table
  create_is ts x h = elim h.spelled.other [
    | inl y ↦ inl (ap is_other h.value ∙ ap is_other y.value ∙ ap is_other y.spelled.other.value)
    | inr y ↦ elim y [
      | inl z ↦ inl (ap is_other h.value ∙ ap is_other z.value ∙ ap is_other z.spelled.other.value)
      | inr z ↦ elim z [
        | inl u ↦ inl (ap is_other h.value ∙ ap is_other u.value ∙ ap is_other u.spelled.other.value)
        | inr u ↦ inr (record { source = h.source; spelled = record { front = h.spelled.front; rest = h.spelled.rest; split = h.spelled.split; one = h.spelled.one; other = u }; value = h.value })
      ]
    ]
  ]

  alter_is : (ts : List Token) (x : Statement) → (g.alter i).rule.spells ts x → (is_other x ≡ true) ⊎ Alters i ts x
  unfolding g.alter g.altered_role g.altered_table
  alter_is ts x h = elim h.spelled.other [
    | inl y ↦ inl (ap is_other h.value ∙ ap is_other y.value ∙ ap is_other y.spelled.other.value)
    | inr y ↦ elim y [
      | inl z ↦ inl (ap is_other h.value ∙ ap is_other z.value ∙ ap is_other z.spelled.other.value)
      | inr z ↦ inr (record { source = h.source; spelled = record { front = h.spelled.front; rest = h.spelled.rest; split = h.spelled.split; one = h.spelled.one; other = z }; value = h.value })
    ]
  ]

  body_is : (ts : List Token) (x : Statement) → (g.body i).rule.spells ts x → (is_other x ≡ true) ⊎ (Creates i ts x ⊎ Alters i ts x)
  unfolding g.body g.select g.insert g.update g.delete
  body_is ts x h = elim h [
    | inl y ↦ inl (ap is_other y.value)
    | inr y ↦ elim y [
      | inl z ↦ inl (ap is_other z.value)
      | inr z ↦ elim z [
        | inl u ↦ inl (ap is_other u.value)
        | inr u ↦ elim u [
          | inl w ↦ inl (ap is_other w.value)
          | inr w ↦ elim w [
            | inl a ↦ elim (create_is ts x a) [ inl b ↦ inl b | inr b ↦ inr (inl b) ]
            | inr a ↦ elim a [
              | inl b ↦ elim (alter_is ts x b) [ inl d ↦ inl d | inr d ↦ inr (inr d) ]
              | inr b ↦ inl (flat_other ts x b)
            ]
          ]
        ]
      ]
    ]
  ]

  no_alteration : (create : CreatePolicy) (asked : AlterPolicy) → st.CreatePolicy create ≡ st.AlterPolicy asked → ⊥
  no_alteration create asked h = cc

  creates : (ts : List Token) (create : CreatePolicy) → (g.body i).rule.spells ts (st.CreatePolicy create) → Creates i ts (st.CreatePolicy create)
  unfolding g.altered_policy
  creates ts create h = elim (body_is ts (st.CreatePolicy create) h) [
    | inl other ↦ absurd (true≢false (sym other))
    | inr x ↦ elim x [
      | inl y ↦ y
      | inr y ↦ absurd (no_alteration create _ (y.value ∙ y.spelled.other.value ∙ y.spelled.other.spelled.other.value))
    ]
  ]

  alters : (ts : List Token) (asked : AlterPolicy) → (g.body i).rule.spells ts (st.AlterPolicy asked) → Alters i ts (st.AlterPolicy asked)
  unfolding g.policy
  alters ts asked h = elim (body_is ts (st.AlterPolicy asked) h) [
    | inl other ↦ absurd (true≢false (sym other))
    | inr x ↦ elim x [
      | inl y ↦ absurd (no_alteration _ asked (sym (y.value ∙ y.spelled.other.value ∙ y.spelled.other.spelled.other.value)))
      | inr y ↦ y
    ]
  ]

-- ---- a text taken apart

-- the body of a statement that a text spells
body_of : (depth : ℕ) (x : Statement) → Phrase (g.statement depth).rule.spells x → Phrase (g.body (g.expr depth)).rule.spells x
unfolding g.statement
body_of depth x h =
    let y = source_of _ _ x h in
    subst (λ z. Phrase (g.body (g.expr depth)).rule.spells z) (sym y.value) (front_of _ _ y.source y.phrase)

phrase_of : (tokens : List Token) (x : Statement) → (h : IsSpelled tokens x) → Phrase (g.body (g.expr h.spelled.depth)).rule.spells x
phrase_of tokens x h = body_of h.spelled.depth x (record { tokens = tokens; spelled = h.spelled.spelled; words = h.words })

both_low : (a b n : ℕ) → max a b ≤ n → (a ≤ n) × (b ≤ n)
both_low a b n h = (omega (arith, h), omega (arith, h))

same_creation : (x y : CreatePolicy) → st.CreatePolicy x ≡ st.CreatePolicy y → x ≡ y
same_creation x y h = cc

same_alteration : (x y : AlterPolicy) → st.AlterPolicy x ≡ st.AlterPolicy y → x ≡ y
same_alteration x y h = cc

policy_parts : (depth : ℕ) (create : CreatePolicy) → Phrase (g.policy (g.expr depth)).rule.spells (st.CreatePolicy create) → height_of (st.CreatePolicy create) ≤ 64 → subqueries_of (st.CreatePolicy create) ≤ 8 → PolicyParts create.table create.policy
unfolding g.policy g.proper_description g.description g.conditions
policy_parts depth create h low few =
    let i = g.expr depth in
    let x = source_of v.policy_of _ (st.CreatePolicy create) h in
    let r = x.source in
    let described = rest_of _ _ r on_closes x.phrase in
    let parts : Phrase (Both g.policy_options.spells (Both g.for_grantees.spells (Both (using_at depth) (check_at depth)))) r.1 = record { tokens = described.tokens; spelled = described.spelled.spelled; words = described.words } in
    let behind = rest_of _ _ r.1 options_close parts in
    let conditions = rest_of _ _ r.1.1 grantees_close behind in
    let lows = both_low (height_if r.1.1.1.0) (height_if r.1.1.1.1) 64 (subst (λ z. height_of z ≤ 64) x.value low) in
    let fews = both_low (deepest_query (maybe_term r.1.1.1.0)) (deepest_query (maybe_term r.1.1.1.1)) 8 (subst (λ z. subqueries_of z ≤ 8) x.value few) in
    let made : CreatePolicy = record { table = r.0.1; policy = record { name = r.0.0; permissive = r.1.0.0; kind = r.1.0.1; to = r.1.1.0; using = r.1.1.1.0; check = r.1.1.1.1 } } in
    subst (λ (z : CreatePolicy). PolicyParts z.table z.policy) (sym (same_creation create made x.value)) (record {
      on = front_of _ _ r x.phrase;
      options = front_of _ _ r.1 parts;
      to = front_of _ _ r.1.1 behind;
      using = record { depth = depth; phrase = front_of _ _ r.1.1.1 conditions; low = lows.0; few = fews.0 };
      check = record { depth = depth; phrase = rest_of _ _ r.1.1.1 (using_closes i (expr_closes depth)) conditions; low = lows.1; few = fews.1 };
      fits = described.spelled.passes;
    })

change_parts : (depth : ℕ) (asked : AlterPolicy) → Phrase (g.altered_policy (g.expr depth)).rule.spells (st.AlterPolicy asked) → height_of (st.AlterPolicy asked) ≤ 64 → subqueries_of (st.AlterPolicy asked) ≤ 8 → ChangeParts asked
unfolding g.altered_policy g.proper_change g.policy_change g.conditions
change_parts depth asked h low few =
    let i = g.expr depth in
    let x = source_of v.altering_policy_of _ (st.AlterPolicy asked) h in
    let r = x.source in
    let changed = rest_of _ _ r on_closes x.phrase in
    let parts : Phrase (Both g.grantees_if_any.spells (Both (using_at depth) (check_at depth))) r.1 = record { tokens = changed.tokens; spelled = changed.spelled.spelled; words = changed.words } in
    let conditions = rest_of _ _ r.1 new_grantees_close parts in
    let lows = both_low (height_if r.1.1.0) (height_if r.1.1.1) 64 (subst (λ z. height_of z ≤ 64) x.value low) in
    let fews = both_low (deepest_query (maybe_term r.1.1.0)) (deepest_query (maybe_term r.1.1.1)) 8 (subst (λ z. subqueries_of z ≤ 8) x.value few) in
    let made : AlterPolicy = record { name = r.0.0; table = r.0.1; to = r.1.0; using = r.1.1.0; check = r.1.1.1 } in
    subst (λ z. ChangeParts z) (sym (same_alteration asked made x.value)) (record {
      to = front_of _ _ r.1 parts;
      using = record { depth = depth; phrase = front_of _ _ r.1.1 conditions; low = lows.0; few = fews.0 };
      check = record { depth = depth; phrase = rest_of _ _ r.1.1 (using_closes i (expr_closes depth)) conditions; low = lows.1; few = fews.1 };
    })

-- The parts of a text of CREATE POLICY,
pub created_parts : (create : CreatePolicy) (tokens : List Token) → IsSpelled tokens (st.CreatePolicy create) → PolicyParts create.table create.policy
created_parts create tokens h =
    let depth = h.spelled.depth in
    let x = phrase_of tokens (st.CreatePolicy create) h in
    let y : Phrase (Creates (g.expr depth)) (st.CreatePolicy create) = record { tokens = x.tokens; spelled = creates (g.expr depth) x.tokens create x.spelled; words = x.words } in
    policy_parts depth create (behind_of (codes "policy") _ _ (behind_of (codes "create") _ _ y)) (spelled_low tokens (st.CreatePolicy create) h) (spelled_few tokens (st.CreatePolicy create) h)

-- and of ALTER POLICY.
pub altered_parts : (asked : AlterPolicy) (tokens : List Token) → IsSpelled tokens (st.AlterPolicy asked) → ChangeParts asked
altered_parts asked tokens h =
    let depth = h.spelled.depth in
    let x = phrase_of tokens (st.AlterPolicy asked) h in
    let y : Phrase (Alters (g.expr depth)) (st.AlterPolicy asked) = record { tokens = x.tokens; spelled = alters (g.expr depth) x.tokens asked x.spelled; words = x.words } in
    change_parts depth asked (behind_of (codes "policy") _ _ (behind_of (codes "alter") _ _ y)) (spelled_low tokens (st.AlterPolicy asked) h) (spelled_few tokens (st.AlterPolicy asked) h)

-- ---- a text put together

statement_of : (depth : ℕ) (x : Statement) → Phrase (Creates (g.expr depth)) x → Phrase (g.statement depth).rule.spells x
unfolding g.statement g.body g.create
statement_of depth x h =
    let y = h.spelled in
    record {
      tokens = h.tokens;
      spelled = record {
        source = (x, None);
        spelled = record {
          front = h.tokens;
          rest = [];
          split = sym (append-nil h.tokens);
          one = inr (inr (inr (inr (inl (record { source = y.source; spelled = record { front = y.spelled.front; rest = y.spelled.rest; split = y.spelled.split; one = y.spelled.one; other = inr (inr (inr y.spelled.other)) }; value = y.value })))));
          other = refl;
        };
        value = refl;
      };
      words = h.words;
    }

policy_phrase : (depth : ℕ) (table : List ℕ) (policy : Policy) → PolicyParts table policy → Phrase (using_at depth) policy.using → Phrase (check_at depth) policy.check → Phrase (g.policy (g.expr depth)).rule.spells (st.CreatePolicy record { table = table; policy = policy })
unfolding g.policy g.proper_description g.description g.conditions
policy_phrase depth table policy parts using check =
    let conditions = both_of _ _ policy.using policy.check (using_closes (g.expr depth) (expr_closes depth)) using check in
    let behind = both_of _ _ policy.to (policy.using, policy.check) grantees_close parts.to conditions in
    let all = both_of _ _ (policy.permissive, policy.kind) (policy.to, (policy.using, policy.check)) options_close parts.options behind in
    let described : Phrase (Checked v.is_policy (Both g.policy_options.spells (Both g.for_grantees.spells (Both (using_at depth) (check_at depth))))) ((policy.permissive, policy.kind), (policy.to, (policy.using, policy.check))) =
    record { tokens = all.tokens; spelled = record { spelled = all.spelled; passes = parts.fits }; words = all.words } in
    mapped_of v.policy_of _ ((policy.name, table), ((policy.permissive, policy.kind), (policy.to, (policy.using, policy.check)))) (both_of _ _ (policy.name, table) ((policy.permissive, policy.kind), (policy.to, (policy.using, policy.check))) on_closes parts.on described)

-- such parts make a text
pub parts_spell : (table : List ℕ) (policy : Policy) → PolicyParts table policy → (tokens : List Token) × IsSpelled tokens (st.CreatePolicy record { table = table; policy = policy })
parts_spell table policy parts =
    let x : Statement = st.CreatePolicy record { table = table; policy = policy } in
    let k = length parts.using.phrase.tokens + length parts.check.phrase.tokens in
    let using = roomier k _ _ policy.using (using_within parts.using.depth k) parts.using.phrase (omega arith) in
    let check = roomier k _ _ policy.check (check_within parts.check.depth k) parts.check.phrase (omega arith) in
    let made = policy_phrase (suc k) table policy parts using check in
    let text = statement_of (suc k) x (behind_word (codes "create") _ x refl (behind_word (codes "policy") _ x refl made)) in
    let low : nat_lt 64 (height_of x) ≡ false = le-ltb 64 (height_of x) (omega (arith, parts.using.low, parts.check.low)) in
    let few : nat_lt 8 (subqueries_of x) ≡ false = le-ltb 8 (subqueries_of x) (omega (arith, parts.using.few, parts.check.few)) in
    (text.tokens, record { spelled = record { depth = suc k; spelled = text.spelled }; words = text.words; within = rw (low, few) refl })
