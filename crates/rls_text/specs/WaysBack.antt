-- The ways back: of which parts a value is written, each with the law that these parts stand for it.
use Rattle.std.{specs.Prelude.◌≡◌, specs.Prelude.ℕ, specs.Prelude.zero, specs.Prelude.suc, specs.Prelude.nat_lt, specs.Prelude.pos, specs.Prelude.negsuc, specs.Prelude.◌-ℤ◌, specs.Prelude.Bool, specs.Prelude.true, specs.Prelude.false, specs.Prelude.not, specs.Prelude.◌&&◌, specs.Prelude.◌||◌, specs.Prelude.if◌then◌else◌, specs.Prelude.List, specs.Prelude.[], specs.Prelude.◌∷◌, specs.Prelude.◌++◌, specs.Prelude.length, specs.Prelude.Option, specs.Prelude.Some, specs.Prelude.None, specs.Prelude.refl, specs.Str.bytes_eq, proofs.Common.arith, proofs.Common.inl, proofs.Common.inr, proofs.Common.sym, proofs.Common.ap, proofs.Common.subst, proofs.Common.◌∙◌, proofs.lemmas.Slice.Eq.bytes_eq-Decides, proofs.lemmas.Bool.lt-ltb}
use native.Mathlib.Numerals.{unary_clauses}
use denote.Enum.Bare.{sameb, same_true}
use Rattle.rls_value.specs.{Names.reserved, declared.value.Value.Value, declared.verb.Privilege.Privilege, contracts.verb.Privilege.the_type as privilege_type}
use Rattle.rls_expr.specs.{Terms.Term, Terms.Terms, Terms.Query, Terms.terms_of, Terms.maybe_term, declared.column_name.ColumnName.ColumnName, declared.expr.Comparison.Comparison, declared.expr.FromItem.FromItem, declared.expr.Sign.Sign, declared.policy.Grantee.Grantee, declared.expr.Selects.Selects, contracts.expr.Comparison.the_type as comparison_type, contracts.expr.Sign.the_type as sign_type}
use Rattle.rls_expr.specs.Terms as e
use Rattle.rls_statement.specs.declared.changing.Assignment as changing
use Rattle.rls_statement.specs.{declared.statement.Attributes.Attributes, declared.statement.MembershipOption.MembershipOption, declared.statement.MembershipOptions.MembershipOptions, declared.privileges.Extent.Extent, declared.privileges.Privileges.Privileges, Extents.has_list, Extents.has_columns, declared.statement.Selected.Selected, declared.statement.SetRole.SetRole, declared.statement.Statement.Statement, contracts.statement.MembershipOption.the_type as option_type}
use Rattle.rls_text.specs.{declared.token.Token.Token, declared.attributes.RoleAttribute.RoleAttribute, Lang.put_in, Writes.some_is, declared.token.Token.TheVariants.Word, declared.token.Token.TheVariants.Number, declared.token.Token.TheVariants.Text, Heads.Names, Heads.Numbers, Heads.Texts, Heads.begins, Rule.Telling, Rule.given_if, Rule.given_was}
use Rattle.rls_text.specs.Values as g

pub both_true : (a b : Bool) → (a && b) ≡ true → (a ≡ true) × (b ≡ true)
both_true true b h = (refl, h)
both_true false b h = cc

-- ---- tokens

pub name_begins : (t : Token) (a : List ℕ) → g.name_of t ≡ Some a → begins (Names ∷ []) t ≡ true
name_begins (Word w) a h = go (reserved w) h
  where
    go : (b : Bool) → if◌then◌else◌ {A = Option (List ℕ)} b None (g.named w) ≡ Some a → (not b || false) ≡ true
    go true h = cc
    go false h = refl
name_begins _ a h = cc

-- the word, if it says this name
abbrev pub word_if : Option (List ℕ) → List ℕ → Option Token
word_if None name = None
word_if (Some m) name = given_if (bytes_eq m name) (Word name)

-- a name that a word can say
abbrev pub as_name : List ℕ → Option Token
as_name name = word_if (g.name_of (Word name)) name

pub name_law : (a : List ℕ) (t : Token) → as_name a ≡ Some t → g.name_of t ≡ Some a
name_law a t h = go (g.name_of (Word a)) refl h
  where
    go : (o : Option (List ℕ)) → g.name_of (Word a) ≡ o → word_if o a ≡ Some t → g.name_of t ≡ Some a
    go None e h = cc
    go (Some m) e h =
        let k = given_was (bytes_eq m a) (Word a) t h in
        let same : m ≡ a = (bytes_eq-Decides m a).0 k.0 in
        subst (λ z. g.name_of z ≡ Some a) k.1 (e ∙ ap Some same)

pub text_begins : (t : Token) (a : List ℕ) → g.text_of t ≡ Some a → begins (Texts ∷ []) t ≡ true
text_begins (Text w) a h = refl
text_begins _ a h = cc

-- a text in quotes
abbrev pub as_quoted : List ℕ → Option Token
as_quoted x = Some (Text x)

pub text_law : (a : List ℕ) (t : Token) → as_quoted a ≡ Some t → g.text_of t ≡ Some a
text_law a t h = subst (λ z. g.text_of z ≡ Some a) (some_is (Text a) t h) refl

pub number_begins : (t : Token) (a : ℕ) → g.number_of t ≡ Some a → begins (Numbers ∷ []) t ≡ true
number_begins (Number w) a h = refl
number_begins _ a h = cc

-- digits
abbrev pub as_digits : ℕ → Option Token
as_digits n = Some (Number n)

pub number_law : (a : ℕ) (t : Token) → as_digits a ≡ Some t → g.number_of t ≡ Some a
number_law a t h = subst (λ z. g.number_of z ≡ Some a) (some_is (Number a) t h) refl

-- ---- literals

-- two of TRUE, FALSE and NULL
abbrev pub are_one_constant : Value → Value → Bool
are_one_constant (Value.Bool true) (Value.Bool true) = true
are_one_constant (Value.Bool false) (Value.Bool false) = true
are_one_constant Value.Null Value.Null = true
are_one_constant _ _ = false

pub constant_is : (x y : Value) → are_one_constant x y ≡ true → x ≡ y
constant_is (Value.Bool true) (Value.Bool true) h = refl
constant_is (Value.Bool false) (Value.Bool false) h = refl
constant_is Value.Null Value.Null h = refl
constant_is _ _ h = cc

-- TRUE, FALSE and NULL, told apart
abbrev pub constants : Telling Value
constants = record { are_same = are_one_constant; same_is = constant_is }

-- a text
abbrev pub as_text : Value → Option (List ℕ)
as_text (Value.Text x) = Some x
as_text _ = None

pub as_text_law : (b : Value) (a : List ℕ) → as_text b ≡ Some a → b ≡ Value.Text a
as_text_law (Value.Text x) a h = ap Value.Text (some_is x a h)
as_text_law _ a h = cc

-- a number; one below 0 has its sign
abbrev pub as_signed : Value → Option (Option (Unit {0}) × ℕ)
as_signed (Value.Int (pos n)) = Some (None, n)
as_signed (Value.Int (negsuc n)) = Some (Some tt, suc n)
as_signed _ = None

below : (n : ℕ) → negsuc n ≡ pos 0 -ℤ pos (suc n)
below n = let t : nat_lt 0 (suc n) ≡ true = lt-ltb 0 (suc n) (omega arith) in simp (unary_clauses, t) refl

pub signed_law : (b : Value) (a : Option (Unit {0}) × ℕ) → as_signed b ≡ Some a → b ≡ g.signed a
signed_law (Value.Int (pos n)) a h = ap g.signed (some_is (None, n) a h)
signed_law (Value.Int (negsuc n)) a h = let z : negsuc n ≡ pos 0 -ℤ pos (suc n) = below n in ap Value.Int z ∙ ap g.signed (some_is (Some tt, suc n) a h)
signed_law _ a h = cc

-- ---- expressions

-- comparisons, told apart
abbrev pub comparisons : Telling Comparison
comparisons = record { are_same = sameb comparison_type; same_is = same_true comparison_type tt }

-- a literal
abbrev pub as_literal : Term → Option Value
as_literal (e.Literal x) = Some x
as_literal _ = None

pub literal_law : (b : Term) (a : Value) → as_literal b ≡ Some a → b ≡ e.Literal a
literal_law (e.Literal x) a h = ap e.Literal (some_is x a h)
literal_law _ a h = cc

-- the name that stands first, and the one behind a dot: where there is a qualifier it stands first
abbrev pub name_parts : Option (List ℕ) → List ℕ → Option (List ℕ × Option (List ℕ))
name_parts None name = Some (name, None)
name_parts (Some qualifier) name = Some (qualifier, Some name)

-- those of a column
abbrev pub as_column_name : ColumnName → Option (List ℕ × Option (List ℕ))
as_column_name b = name_parts b.qualifier b.name

column_name_back : (qualifier : Option (List ℕ)) (name : List ℕ) (a : List ℕ × Option (List ℕ)) → name_parts qualifier name ≡ Some a → record { qualifier = qualifier; name = name } ≡ g.column_name_of a
column_name_back None name a h = ap g.column_name_of (some_is (name, None) a h)
column_name_back (Some qualifier) name a h = ap g.column_name_of (some_is (qualifier, Some name) a h)

pub column_name_law : (b : ColumnName) (a : List ℕ × Option (List ℕ)) → as_column_name b ≡ Some a → b ≡ g.column_name_of a
column_name_law b a h = column_name_back b.qualifier b.name a h

-- a column
abbrev pub as_column : Term → Option ColumnName
as_column (e.Column x) = Some x
as_column _ = None

pub column_law : (b : Term) (a : ColumnName) → as_column b ≡ Some a → b ≡ e.Column a
column_law (e.Column x) a h = ap e.Column (some_is x a h)
column_law _ a h = cc

-- CURRENT_USER
abbrev pub as_user : Term → Option (Unit {0})
as_user e.CurrentUser = Some tt
as_user _ = None

pub user_law : (b : Term) (a : Unit {0}) → as_user b ≡ Some a → b ≡ e.CurrentUser
user_law e.CurrentUser a h = refl
user_law _ a h = cc

-- a comparison's operands
abbrev pub as_compared : Term → Option (Term × Option (Comparison × Term))
as_compared (e.Compare how x y) = Some (x, Some (how, y))
as_compared _ = None

pub compared_law : (b : Term) (a : Term × Option (Comparison × Term)) → as_compared b ≡ Some a → b ≡ g.compared a.0 a.1
compared_law (e.Compare how x y) a h = ap (λ r. g.compared r.0 r.1) (some_is (x, Some (how, y)) a h)
compared_law _ a h = cc

-- what IS NULL or IS NOT NULL tests
abbrev pub as_tested : Term → Option (Term × List (Option (Unit {0})))
as_tested (e.IsNull x) = Some (x, None ∷ [])
as_tested (e.IsNotNull x) = Some (x, Some tt ∷ [])
as_tested _ = None

pub tested_law : (b : Term) (a : Term × List (Option (Unit {0}))) → as_tested b ≡ Some a → b ≡ put_in g.null_test a.0 a.1
tested_law (e.IsNull x) a h = ap (λ r. put_in g.null_test r.0 r.1) (some_is (x, None ∷ []) a h)
tested_law (e.IsNotNull x) a h = ap (λ r. put_in g.null_test r.0 r.1) (some_is (x, Some tt ∷ []) a h)
tested_law _ a h = cc

-- what NOT negates
abbrev pub as_negated : Term → Option (ℕ × Term)
as_negated (e.Not x) = Some (1, x)
as_negated _ = None

pub negated_law : (b : Term) (a : ℕ × Term) → as_negated b ≡ Some a → b ≡ g.negated a.0 a.1
negated_law (e.Not x) a h = ap (λ r. g.negated r.0 r.1) (some_is (1, x) a h)
negated_law _ a h = cc

-- so many words
abbrev pub repeated : ℕ → List (Unit {0})
repeated zero = []
repeated (suc n) = tt ∷ repeated n

-- NOT, so many times
abbrev pub as_repeated : ℕ → Option (List (Unit {0}))
as_repeated n = Some (repeated n)

pub repeated_law : (b : ℕ) (a : List (Unit {0})) → as_repeated b ≡ Some a → b ≡ length a
repeated_law b a h = sym (counted b) ∙ ap length (some_is (repeated b) a h)
  where
    counted : (n : ℕ) → length (repeated n) ≡ n
    counted zero = refl
    counted (suc n) = let e = counted n in omega (arith, e)

-- the operands of a node
abbrev pub list_of : Terms → List Term
list_of e.End = []
list_of (e.More t ts) = t ∷ list_of ts

pub terms_back : (ts : Terms) → terms_of (list_of ts) ≡ ts
terms_back e.End = refl
terms_back (e.More t ts) = ap (λ z. e.More t z) (terms_back ts)

-- the first of two operands or more, and the others
abbrev pub as_operands : Terms → Option (Term × List Term)
as_operands (e.More x (e.More y ts)) = Some (x, y ∷ list_of ts)
as_operands _ = None

-- those of AND
abbrev pub as_and : Term → Option (Term × List Term)
as_and (e.And ts) = as_operands ts
as_and _ = None

pub and_law : (b : Term) (a : Term × List Term) → as_and b ≡ Some a → b ≡ g.and_of a.0 a.1
and_law (e.And (e.More x (e.More y ts))) a h = ap (λ z. e.And (e.More x (e.More y z))) (sym (terms_back ts)) ∙ ap (λ r. g.and_of r.0 r.1) (some_is (x, y ∷ list_of ts) a h)
and_law _ a h = cc

-- those of OR
abbrev pub as_or : Term → Option (Term × List Term)
as_or (e.Or ts) = as_operands ts
as_or _ = None

pub or_law : (b : Term) (a : Term × List Term) → as_or b ≡ Some a → b ≡ g.or_of a.0 a.1
or_law (e.Or (e.More x (e.More y ts))) a h = ap (λ z. e.Or (e.More x (e.More y z))) (sym (terms_back ts)) ∙ ap (λ r. g.or_of r.0 r.1) (some_is (x, y ∷ list_of ts) a h)
or_law _ a h = cc

-- no term, or one
abbrev pub as_condition : Terms → Option (Option Term)
as_condition e.End = Some None
as_condition (e.More t e.End) = Some (Some t)
as_condition _ = None

condition_law : (b : Terms) (a : Option Term) → as_condition b ≡ Some a → b ≡ maybe_term a
condition_law e.End a h = ap maybe_term (some_is None a h)
condition_law (e.More t e.End) a h = ap maybe_term (some_is (Some t) a h)
condition_law (e.More t (e.More u ts)) a h = cc

-- what is selected of a table, where the condition is one
abbrev pub selected_from : Selected → FromItem → Option (Option Term) → Option g.SelectParts
selected_from x from None = None
selected_from x from (Some condition) = Some (x, ((from.table, from.alias), condition))

-- the parts of a subquery of which the key isn't resolved
abbrev pub as_query : Query → Option g.SelectParts
as_query (e.Select from [] Selects.All e.End condition) = selected_from Selected.All from (as_condition condition)
as_query (e.Select from [] Selects.Count e.End condition) = selected_from Selected.Count from (as_condition condition)
as_query (e.Select from [] Selects.Items items condition) = selected_from (Selected.Items (list_of items)) from (as_condition condition)
as_query _ = None

selected_law : (x : Selected) (from : FromItem) (condition : Terms) (a : g.SelectParts) → selected_from x from (as_condition condition) ≡ Some a
    → e.Select from [] (g.selects_of x) (terms_of (g.items_of x)) condition ≡ g.query_of a
selected_law x from condition a h = go (as_condition condition) refl h
  where
    go : (o : Option (Option Term)) → as_condition condition ≡ o → selected_from x from o ≡ Some a → e.Select from [] (g.selects_of x) (terms_of (g.items_of x)) condition ≡ g.query_of a
    go None same k = cc
    go (Some y) same k = ap (λ z. e.Select from [] (g.selects_of x) (terms_of (g.items_of x)) z) (condition_law condition y same) ∙ ap g.query_of (some_is (x, ((from.table, from.alias), y)) a k)

pub query_law : (b : Query) (a : g.SelectParts) → as_query b ≡ Some a → b ≡ g.query_of a
query_law (e.Select from [] Selects.All e.End condition) a h = selected_law Selected.All from condition a h
query_law (e.Select from [] Selects.Count e.End condition) a h = selected_law Selected.Count from condition a h
query_law (e.Select from [] Selects.Items items condition) a h = ap (λ z. e.Select from [] Selects.Items z condition) (sym (terms_back items)) ∙ selected_law (Selected.Items (list_of items)) from condition a h
query_law _ a h = cc

-- the subquery of EXISTS
abbrev pub as_exists : Term → Option g.SelectParts
as_exists (e.Exists q) = as_query q
as_exists _ = None

pub exists_law : (b : Term) (a : g.SelectParts) → as_exists b ≡ Some a → b ≡ e.Exists (g.query_of a)
exists_law (e.Exists q) a h = ap e.Exists (query_law q a h)
exists_law _ a h = cc

-- a subquery that stands for a value
abbrev pub as_scalar : Term → Option g.SelectParts
as_scalar (e.Scalar q) = as_query q
as_scalar _ = None

pub scalar_law : (b : Term) (a : g.SelectParts) → as_scalar b ≡ Some a → b ≡ e.Scalar (g.query_of a)
scalar_law (e.Scalar q) a h = ap e.Scalar (query_law q a h)
scalar_law _ a h = cc

-- a list behind IN
abbrev pub as_listed : g.Choices → Option (List Term)
as_listed (inl list) = Some list
as_listed (inr _) = None

pub listed_law : (b : g.Choices) (a : List Term) → as_listed b ≡ Some a → b ≡ inl a
listed_law (inl list) a h = ap (λ z. inl z) (some_is list a h)
listed_law (inr _) a h = cc

-- a SELECT behind IN
abbrev pub as_queried : g.Choices → Option g.SelectParts
as_queried (inr r) = Some r
as_queried (inl _) = None

pub queried_law : (b : g.Choices) (a : g.SelectParts) → as_queried b ≡ Some a → b ≡ inr a
queried_law (inr r) a h = ap (λ z. inr z) (some_is r a h)
queried_law (inl _) a h = cc

-- behind a left side and IN
abbrev pub behind_in : Term → Option (Unit {0}) → Option g.SelectParts → Option (Term × Option (Option (Unit {0}) × g.Choices))
behind_in x negated None = None
behind_in x negated (Some r) = Some (x, Some (negated, inr r))

-- the left side of IN or NOT IN, and the list or the SELECT
abbrev pub as_among : Term → Option (Term × Option (Option (Unit {0}) × g.Choices))
as_among (e.InList x ts) = Some (x, Some (None, inl (list_of ts)))
as_among (e.NotInList x ts) = Some (x, Some (Some tt, inl (list_of ts)))
as_among (e.InSubquery x q) = behind_in x None (as_query q)
as_among (e.NotInSubquery x q) = behind_in x (Some tt) (as_query q)
as_among _ = None

within_law : (node : Query → Term) (x : Term) (negated : Option (Unit {0})) (q : Query) (a : Term × Option (Option (Unit {0}) × g.Choices))
    → ((r : g.SelectParts) → node (g.query_of r) ≡ g.among_of x negated (inr r)) → behind_in x negated (as_query q) ≡ Some a → node q ≡ g.among a.0 a.1
within_law node x negated q a same h = go (as_query q) refl h
  where
    go : (o : Option g.SelectParts) → as_query q ≡ o → behind_in x negated o ≡ Some a → node q ≡ g.among a.0 a.1
    go None e k = cc
    go (Some r) e k = ap node (query_law q r e) ∙ same r ∙ ap (λ z. g.among z.0 z.1) (some_is (x, Some (negated, inr r)) a k)

pub among_law : (b : Term) (a : Term × Option (Option (Unit {0}) × g.Choices)) → as_among b ≡ Some a → b ≡ g.among a.0 a.1
among_law (e.InList x ts) a h = ap (λ z. e.InList x z) (sym (terms_back ts)) ∙ ap (λ r. g.among r.0 r.1) (some_is (x, Some (None, inl (list_of ts))) a h)
among_law (e.NotInList x ts) a h = ap (λ z. e.NotInList x z) (sym (terms_back ts)) ∙ ap (λ r. g.among r.0 r.1) (some_is (x, Some (Some tt, inl (list_of ts))) a h)
among_law (e.InSubquery x q) a h = within_law (e.InSubquery x) x None q a (λ r. refl) h
among_law (e.NotInSubquery x q) a h = within_law (e.NotInSubquery x) x (Some tt) q a (λ r. refl) h
among_law _ a h = cc

-- signs, told apart
abbrev pub signs : Telling Sign
signs = record { are_same = sameb sign_type; same_is = same_true sign_type tt }

-- one more, before them
abbrev pub put_first : (Sign × Term) → Option (List (Sign × Term)) → Option (List (Sign × Term))
put_first part None = None
put_first part (Some parts) = Some (part ∷ parts)

-- a part behind each sign, if there are as many of both
abbrev pub signed_parts : List Sign → Terms → Option (List (Sign × Term))
signed_parts [] e.End = Some []
signed_parts (x ∷ xs) (e.More t ts) = put_first (x, t) (signed_parts xs ts)
signed_parts _ _ = None

signed_back : (xs : List Sign) (ts : Terms) (parts : List (Sign × Term)) → signed_parts xs ts ≡ Some parts → (g.signs_of parts ≡ xs) × (terms_of (g.parts_of parts) ≡ ts)
signed_back [] e.End parts h = subst (λ z. (g.signs_of z ≡ []) × (terms_of (g.parts_of z) ≡ e.End)) (some_is [] parts h) (refl, refl)
signed_back [] (e.More t ts) parts h = cc
signed_back (x ∷ xs) e.End parts h = cc
signed_back (x ∷ xs) (e.More t ts) parts h = go (signed_parts xs ts) (signed_back xs ts) h
  where
    go : (o : Option (List (Sign × Term))) → ((ps : List (Sign × Term)) → o ≡ Some ps → (g.signs_of ps ≡ xs) × (terms_of (g.parts_of ps) ≡ ts))
        → put_first (x, t) o ≡ Some parts → (g.signs_of parts ≡ x ∷ xs) × (terms_of (g.parts_of parts) ≡ e.More t ts)
    go None again k = cc
    go (Some ps) again k =
        let r = again ps refl in
        subst (λ z. (g.signs_of z ≡ x ∷ xs) × (terms_of (g.parts_of z) ≡ e.More t ts)) (some_is ((x, t) ∷ ps) parts k) (ap (λ z. x ∷ z) r.0, ap (λ z. e.More t z) r.1)

-- the first part and the others, if there are others
abbrev pub with_others : Term → Option (List (Sign × Term)) → Option (Term × List (Sign × Term))
with_others first (Some (second ∷ more)) = Some (first, second ∷ more)
with_others _ _ = None

-- the parts of a sum
abbrev pub as_sum : Term → Option (Term × List (Sign × Term))
as_sum (e.Sum xs (e.More first ts)) = with_others first (signed_parts xs ts)
as_sum _ = None

pub sum_law : (b : Term) (a : Term × List (Sign × Term)) → as_sum b ≡ Some a → b ≡ g.sum_of a.0 a.1
sum_law (e.Sum xs (e.More first ts)) a h = go (signed_parts xs ts) refl h
  where
    go : (o : Option (List (Sign × Term))) → signed_parts xs ts ≡ o → with_others first o ≡ Some a → e.Sum xs (e.More first ts) ≡ g.sum_of a.0 a.1
    go None same k = cc
    go (Some []) same k = cc
    go (Some (second ∷ more)) same k =
        let r = signed_back xs ts (second ∷ more) same in
        ap (λ z. e.Sum z (e.More first ts)) (sym r.0) ∙ ap (λ z. e.Sum (g.signs_of (second ∷ more)) (e.More first z)) (sym r.1) ∙ ap (λ z. g.sum_of z.0 z.1) (some_is (first, second ∷ more) a k)
sum_law _ a h = cc

-- ---- SELECT

-- all columns
abbrev pub as_all : Selected → Option (Unit {0})
as_all Selected.All = Some tt
as_all _ = None

pub all_law : (b : Selected) (a : Unit {0}) → as_all b ≡ Some a → b ≡ Selected.All
all_law Selected.All a h = refl
all_law _ a h = cc

-- the items
abbrev pub as_items : Selected → Option (List Term)
as_items (Selected.Items x) = Some x
as_items _ = None

pub items_law : (b : Selected) (a : List Term) → as_items b ≡ Some a → b ≡ Selected.Items a
items_law (Selected.Items x) a h = ap Selected.Items (some_is x a h)
items_law _ a h = cc

-- the number of rows
abbrev pub as_count : Selected → Option (Unit {0})
as_count Selected.Count = Some tt
as_count _ = None

pub count_law : (b : Selected) (a : Unit {0}) → as_count b ≡ Some a → b ≡ Selected.Count
count_law Selected.Count a h = refl
count_law _ a h = cc

-- items, table and alias, condition
abbrev pub as_select : Statement → Option (Selected × (g.TableAndAlias × Option Term))
as_select (Statement.Select x) = Some (x.items, ((x.table, x.alias), x.condition))
as_select _ = None

pub select_law : (b : Statement) (a : Selected × (g.TableAndAlias × Option Term)) → as_select b ≡ Some a → b ≡ g.select_of a
select_law (Statement.Select x) a h = ap g.select_of (some_is (x.items, ((x.table, x.alias), x.condition)) a h)
select_law _ a h = cc

-- ---- INSERT

-- table, columns and tuples, RETURNING
abbrev pub as_insert : Statement → Option (List ℕ × (g.Rows × Option Selected))
as_insert (Statement.Insert x) = Some (x.table, ((x.columns, x.tuples), x.returning))
as_insert _ = None

pub insert_law : (b : Statement) (a : List ℕ × (g.Rows × Option Selected)) → as_insert b ≡ Some a → b ≡ g.insert_of a
insert_law (Statement.Insert x) a h = ap g.insert_of (some_is (x.table, ((x.columns, x.tuples), x.returning)) a h)
insert_law _ a h = cc

-- ---- UPDATE and DELETE

-- column, expression
abbrev pub as_set_column : changing.Assignment → Option (List ℕ × Term)
as_set_column x = Some (x.column, x.value)

pub set_column_law : (b : changing.Assignment) (a : List ℕ × Term) → as_set_column b ≡ Some a → b ≡ g.set_column_of a
set_column_law b a h = ap g.set_column_of (some_is (b.column, b.value) a h)

-- table, columns that are set, WHERE and RETURNING
abbrev pub as_update : Statement → Option (List ℕ × (List changing.Assignment × g.Ending Term))
as_update (Statement.Update x) = Some (x.table, (x.assignments, (x.condition, x.returning)))
as_update _ = None

pub update_law : (b : Statement) (a : List ℕ × (List changing.Assignment × g.Ending Term)) → as_update b ≡ Some a → b ≡ g.update_of a
update_law (Statement.Update x) a h = ap g.update_of (some_is (x.table, (x.assignments, (x.condition, x.returning))) a h)
update_law _ a h = cc

-- table, WHERE and RETURNING
abbrev pub as_delete : Statement → Option (List ℕ × g.Ending Term)
as_delete (Statement.Delete x) = Some (x.table, (x.condition, x.returning))
as_delete _ = None

pub delete_law : (b : Statement) (a : List ℕ × g.Ending Term) → as_delete b ≡ Some a → b ≡ g.delete_of a
delete_law (Statement.Delete x) a h = ap g.delete_of (some_is (x.table, (x.condition, x.returning)) a h)
delete_law _ a h = cc

-- ---- roles

-- one truth value
abbrev pub same_flag : Bool → Bool → Bool
same_flag true b = b
same_flag false b = not b

pub same_flag_is : (x y : Bool) → same_flag x y ≡ true → x ≡ y
same_flag_is true true h = refl
same_flag_is true false h = cc
same_flag_is false true h = cc
same_flag_is false false h = refl

-- one attribute, said in one way
abbrev pub same_attribute : RoleAttribute → RoleAttribute → Bool
same_attribute (RoleAttribute.Superuser x) (RoleAttribute.Superuser y) = same_flag x y
same_attribute (RoleAttribute.Login x) (RoleAttribute.Login y) = same_flag x y
same_attribute (RoleAttribute.BypassRls x) (RoleAttribute.BypassRls y) = same_flag x y
same_attribute _ _ = false

pub same_attribute_is : (x y : RoleAttribute) → same_attribute x y ≡ true → x ≡ y
same_attribute_is (RoleAttribute.Superuser x) (RoleAttribute.Superuser y) h = ap RoleAttribute.Superuser (same_flag_is x y h)
same_attribute_is (RoleAttribute.Login x) (RoleAttribute.Login y) h = ap RoleAttribute.Login (same_flag_is x y h)
same_attribute_is (RoleAttribute.BypassRls x) (RoleAttribute.BypassRls y) h = ap RoleAttribute.BypassRls (same_flag_is x y h)
same_attribute_is _ _ h = cc

-- attributes, told apart
abbrev pub role_attributes : Telling RoleAttribute
role_attributes = record { are_same = same_attribute; same_is = same_attribute_is }

-- the list, or none where it is empty
abbrev pub if_any : {A : Type 0} → List A → Option (List A)
if_any [] = None
if_any (x ∷ xs) = Some (x ∷ xs)

-- the attribute, if it is written
abbrev pub one_if : (Bool → RoleAttribute) → Option Bool → List RoleAttribute
one_if f None = []
one_if f (Some x) = f x ∷ []

-- those that are written, in the order SUPERUSER, LOGIN, BYPASSRLS
abbrev pub in_order : Attributes → Option (List RoleAttribute)
in_order b = if_any (one_if RoleAttribute.Superuser b.superuser ++ one_if RoleAttribute.Login b.login ++ one_if RoleAttribute.BypassRls b.bypass_rls)

-- behind CREATE ROLE; CREATE USER is written as CREATE ROLE with LOGIN
abbrev pub as_attributes : Bool → Attributes → Option (Option (List RoleAttribute))
as_attributes true b = None
as_attributes false b = Some (in_order b)

attributes_back : (s l p : Option Bool) → record { superuser = s; login = l; bypass_rls = p } ≡ g.attributes_from false (in_order record { superuser = s; login = l; bypass_rls = p })
attributes_back None None None = refl
attributes_back None None (Some z) = refl
attributes_back None (Some y) None = refl
attributes_back None (Some y) (Some z) = refl
attributes_back (Some x) None None = refl
attributes_back (Some x) None (Some z) = refl
attributes_back (Some x) (Some y) None = refl
attributes_back (Some x) (Some y) (Some z) = refl

pub attributes_law : (is_user : Bool) (b : Attributes) (a : Option (List RoleAttribute)) → as_attributes is_user b ≡ Some a → b ≡ g.attributes_from is_user a
attributes_law true b a h = cc
attributes_law false b a h = attributes_back b.superuser b.login b.bypass_rls ∙ ap (g.attributes_from false) (some_is (in_order b) a h)

-- name, attributes
abbrev pub as_role : Statement → Option (List ℕ × Attributes)
as_role (Statement.CreateRole x) = Some (x.name, x.attributes)
as_role _ = None

pub role_law : (b : Statement) (a : List ℕ × Attributes) → as_role b ≡ Some a → b ≡ g.role_of a
role_law (Statement.CreateRole x) a h = ap g.role_of (some_is (x.name, x.attributes) a h)
role_law _ a h = cc

-- behind ALTER ROLE, where at least one is written
pub some_attributes_law : (b : Attributes) (a : List RoleAttribute) → in_order b ≡ Some a → b ≡ g.attributes_from false (Some a)
some_attributes_law b a h = attributes_back b.superuser b.login b.bypass_rls ∙ ap (g.attributes_from false) h

-- name, attributes
abbrev pub as_altering : Statement → Option (List ℕ × Attributes)
as_altering (Statement.AlterRole x) = Some (x.name, x.attributes)
as_altering _ = None

pub altering_law : (b : Statement) (a : List ℕ × Attributes) → as_altering b ≡ Some a → b ≡ g.altering_of a
altering_law (Statement.AlterRole x) a h = ap g.altering_of (some_is (x.name, x.attributes) a h)
altering_law _ a h = cc

-- ---- GRANT and REVOKE of privileges

-- privileges, told apart
abbrev pub privilege_names : Telling Privilege
privilege_names = record { are_same = sameb privilege_type; same_is = same_true privilege_type tt }

-- for the whole table
abbrev pub as_on_whole : g.NamedPrivilege → Option Privilege
as_on_whole (privilege, None) = Some privilege
as_on_whole (privilege, Some columns) = None

pub on_whole_law : (b : g.NamedPrivilege) (a : Privilege) → as_on_whole b ≡ Some a → b ≡ g.on_whole a
on_whole_law (privilege, None) a h = ap g.on_whole (some_is privilege a h)
on_whole_law (privilege, Some columns) a h = cc

-- the four for the whole table, and no list of columns
abbrev pub are_all : Privileges → Bool
are_all b = (b.select.whole && (b.insert.whole && (b.update.whole && b.delete))) && not (has_columns b)

-- ALL, without PRIVILEGES; with columns the three are written
abbrev pub as_all_privileges : Privileges → Option (Option (List (List ℕ)))
as_all_privileges b = given_if (are_all b) None

no_list : (e : Extent) → e.whole ≡ true → has_list e ≡ false → e ≡ g.extended g.nothing None
no_list e w h = go e.whole e.columns w h
  where
    go : (whole : Bool) (columns : List (List ℕ)) → whole ≡ true → has_list record { whole = whole; columns = columns } ≡ false → record { whole = whole; columns = columns } ≡ g.extended g.nothing None
    go true [] w h = refl
    go true (column ∷ columns) w h = cc
    go false columns w h = cc

no_lists : (s i u : Bool) → not (s || (i || u)) ≡ true → (s ≡ false) × ((i ≡ false) × (u ≡ false))
no_lists false false false h = (refl, (refl, refl))
no_lists true i u h = cc
no_lists false true u h = cc
no_lists false false true h = cc

all_back : (b : Privileges) → are_all b ≡ true → b ≡ g.all_of None
all_back b h =
    let x = both_true (b.select.whole && (b.insert.whole && (b.update.whole && b.delete))) (not (has_columns b)) h in
    let s = both_true b.select.whole (b.insert.whole && (b.update.whole && b.delete)) x.0 in
    let i = both_true b.insert.whole (b.update.whole && b.delete) s.1 in
    let u = both_true b.update.whole b.delete i.1 in
    let none = no_lists (has_list b.select) (has_list b.insert) (has_list b.update) x.1 in
    (λ j. record { select = no_list b.select s.0 none.0 j; insert = no_list b.insert i.0 none.1.0 j; update = no_list b.update u.0 none.1.1 j; delete = u.1 j })

pub all_privileges_law : (b : Privileges) (a : Option (List (List ℕ))) → as_all_privileges b ≡ Some a → b ≡ g.all_of a
all_privileges_law b a h = let is = given_was (are_all b) None a h in all_back b is.0 ∙ ap g.all_of is.1

-- the privilege for the whole table, where it is so
abbrev pub where_whole : Privilege → Bool → List g.NamedPrivilege
where_whole privilege true = g.on_whole privilege ∷ []
where_whole privilege false = []

-- for columns, where there are some
abbrev pub where_listed : Privilege → List (List ℕ) → List g.NamedPrivilege
where_listed privilege [] = []
where_listed privilege (column ∷ columns) = (privilege, Some (column ∷ columns)) ∷ []

-- as a privilege is named for this: the whole table first
abbrev pub naming : Privilege → Extent → List g.NamedPrivilege
naming privilege extent = where_whole privilege extent.whole ++ where_listed privilege extent.columns

-- privileges as they are named, in the order SELECT, INSERT, UPDATE, DELETE
abbrev pub named_of : Privileges → List g.NamedPrivilege
named_of b = naming Privilege.Select b.select ++ (naming Privilege.Insert b.insert ++ (naming Privilege.Update b.update ++ where_whole Privilege.Delete b.delete))

-- those
abbrev pub as_privileges : Privileges → Option (List g.NamedPrivilege)
as_privileges b = Some (named_of b)

put_all_in : {A B : Type 0} (step : B → A → B) (into : B) (xs ys : List A) → put_in step into (xs ++ ys) ≡ put_in step (put_in step into xs) ys
put_all_in step into [] ys = refl
put_all_in step into (x ∷ xs) ys = put_all_in step (step into x) xs ys

select_back : (e i u : Extent) (d : Bool) → put_in g.with_privilege record { select = g.nothing; insert = i; update = u; delete = d } (naming Privilege.Select e) ≡ record { select = e; insert = i; update = u; delete = d }
unfolding g.with_privilege
select_back e i u d = go e.whole e.columns
  where
    go : (whole : Bool) (columns : List (List ℕ)) → put_in g.with_privilege record { select = g.nothing; insert = i; update = u; delete = d } (naming Privilege.Select record { whole = whole; columns = columns })
        ≡ record { select = record { whole = whole; columns = columns }; insert = i; update = u; delete = d }
    go true [] = refl
    go true (column ∷ columns) = refl
    go false [] = refl
    go false (column ∷ columns) = refl

insert_back : (s e u : Extent) (d : Bool) → put_in g.with_privilege record { select = s; insert = g.nothing; update = u; delete = d } (naming Privilege.Insert e) ≡ record { select = s; insert = e; update = u; delete = d }
unfolding g.with_privilege
insert_back s e u d = go e.whole e.columns
  where
    go : (whole : Bool) (columns : List (List ℕ)) → put_in g.with_privilege record { select = s; insert = g.nothing; update = u; delete = d } (naming Privilege.Insert record { whole = whole; columns = columns })
        ≡ record { select = s; insert = record { whole = whole; columns = columns }; update = u; delete = d }
    go true [] = refl
    go true (column ∷ columns) = refl
    go false [] = refl
    go false (column ∷ columns) = refl

update_back : (s i e : Extent) (d : Bool) → put_in g.with_privilege record { select = s; insert = i; update = g.nothing; delete = d } (naming Privilege.Update e) ≡ record { select = s; insert = i; update = e; delete = d }
unfolding g.with_privilege
update_back s i e d = go e.whole e.columns
  where
    go : (whole : Bool) (columns : List (List ℕ)) → put_in g.with_privilege record { select = s; insert = i; update = g.nothing; delete = d } (naming Privilege.Update record { whole = whole; columns = columns })
        ≡ record { select = s; insert = i; update = record { whole = whole; columns = columns }; delete = d }
    go true [] = refl
    go true (column ∷ columns) = refl
    go false [] = refl
    go false (column ∷ columns) = refl

delete_back : (s i u : Extent) (d : Bool) → put_in g.with_privilege record { select = s; insert = i; update = u; delete = false } (where_whole Privilege.Delete d) ≡ record { select = s; insert = i; update = u; delete = d }
unfolding g.with_privilege
delete_back s i u true = refl
delete_back s i u false = refl

-- what is named for these privileges are these privileges
pub named_back : (b : Privileges) → g.privileges_of (named_of b) ≡ b
named_back b =
    let delete = where_whole Privilege.Delete b.delete in
    let update = naming Privilege.Update b.update ++ delete in
    let insert = naming Privilege.Insert b.insert ++ update in
    put_all_in g.with_privilege g.no_privileges (naming Privilege.Select b.select) insert
    ∙ ap (λ z. put_in g.with_privilege z insert) (select_back b.select g.nothing g.nothing false)
    ∙ put_all_in g.with_privilege record { select = b.select; insert = g.nothing; update = g.nothing; delete = false } (naming Privilege.Insert b.insert) update
    ∙ ap (λ z. put_in g.with_privilege z update) (insert_back b.select b.insert g.nothing false)
    ∙ put_all_in g.with_privilege record { select = b.select; insert = b.insert; update = g.nothing; delete = false } (naming Privilege.Update b.update) delete
    ∙ ap (λ z. put_in g.with_privilege z delete) (update_back b.select b.insert b.update false)
    ∙ delete_back b.select b.insert b.update b.delete

pub privileges_law : (b : Privileges) (a : List g.NamedPrivilege) → as_privileges b ≡ Some a → b ≡ g.privileges_of a
privileges_law b a h = sym (named_back b) ∙ ap g.privileges_of (some_is (named_of b) a h)

-- words that are written where it is so
abbrev pub as_words : Bool → Option (Option (Unit {0}))
as_words true = Some (Some tt)
as_words false = Some None

pub words_law : (b : Bool) (a : Option (Unit {0})) → as_words b ≡ Some a → b ≡ g.are_written a
words_law true a h = ap g.are_written (some_is (Some tt) a h)
words_law false a h = ap g.are_written (some_is None a h)

-- CASCADE; RESTRICT isn't written
abbrev pub as_cascade : Bool → Option (Option Bool)
as_cascade true = Some (Some true)
as_cascade false = Some None

pub cascade_law : (b : Bool) (a : Option Bool) → as_cascade b ≡ Some a → b ≡ g.or_restrict a
cascade_law true a h = ap g.or_restrict (some_is (Some true) a h)
cascade_law false a h = ap g.or_restrict (some_is None a h)

-- privileges, table, grantees, WITH GRANT OPTION
abbrev pub as_grant : Statement → Option ((Privileges × List ℕ) × (List Grantee × Bool))
as_grant (Statement.Grant x) = Some ((x.privileges, x.table), (x.to, x.with_option))
as_grant _ = None

pub grant_law : (b : Statement) (a : (Privileges × List ℕ) × (List Grantee × Bool)) → as_grant b ≡ Some a → b ≡ g.grant_of a
grant_law (Statement.Grant x) a h = ap g.grant_of (some_is ((x.privileges, x.table), (x.to, x.with_option)) a h)
grant_law _ a h = cc

-- GRANT OPTION FOR, privileges, table, grantees, CASCADE
abbrev pub as_revoke : Statement → Option (Bool × ((Privileges × List ℕ) × (List Grantee × Bool)))
as_revoke (Statement.Revoke x) = Some (x.option_only, ((x.privileges, x.table), (x.from, x.cascade)))
as_revoke _ = None

pub revoke_law : (b : Statement) (a : Bool × ((Privileges × List ℕ) × (List Grantee × Bool))) → as_revoke b ≡ Some a → b ≡ g.revoke_of a
revoke_law (Statement.Revoke x) a h = ap g.revoke_of (some_is (x.option_only, ((x.privileges, x.table), (x.from, x.cascade))) a h)
revoke_law _ a h = cc

-- ---- memberships

-- the options of memberships told apart
abbrev pub option_names : Telling MembershipOption
option_names = record { are_same = sameb option_type; same_is = same_true option_type tt }

-- truth values told apart
abbrev pub flags : Telling Bool
flags = record { are_same = same_flag; same_is = same_flag_is }

-- the option, if it is written
abbrev pub setting_if : MembershipOption → Option Bool → List g.Setting
setting_if x None = []
setting_if x (Some flag) = (x, flag) ∷ []

-- those that are written, in the order ADMIN, INHERIT, SET
abbrev pub as_options : MembershipOptions → Option (List g.Setting)
as_options b = if_any (setting_if MembershipOption.Admin b.admin ++ setting_if MembershipOption.Inherit b.inherit ++ setting_if MembershipOption.Set b.set)

options_back : (x y z : Option Bool) → record { admin = x; inherit = y; set = z } ≡ g.options_from (as_options record { admin = x; inherit = y; set = z })
options_back None None None = refl
options_back None None (Some z) = refl
options_back None (Some y) None = refl
options_back None (Some y) (Some z) = refl
options_back (Some x) None None = refl
options_back (Some x) None (Some z) = refl
options_back (Some x) (Some y) None = refl
options_back (Some x) (Some y) (Some z) = refl

-- WITH and those that are written
abbrev pub as_with : MembershipOptions → Option (Option (List g.Setting))
as_with b = Some (as_options b)

pub options_law : (b : MembershipOptions) (a : Option (List g.Setting)) → as_with b ≡ Some a → b ≡ g.options_from a
options_law b a h = options_back b.admin b.inherit b.set ∙ ap g.options_from (some_is (as_options b) a h)

-- roles, members, options
abbrev pub as_granting : Statement → Option (List (List ℕ) × (List (List ℕ) × MembershipOptions))
as_granting (Statement.GrantRoles x) = Some (x.roles, (x.to, x.options))
as_granting _ = None

pub granting_law : (b : Statement) (a : List (List ℕ) × (List (List ℕ) × MembershipOptions)) → as_granting b ≡ Some a → b ≡ g.granting_of a
granting_law (Statement.GrantRoles x) a h = ap g.granting_of (some_is (x.roles, (x.to, x.options)) a h)
granting_law _ a h = cc

-- the parts, where there is no option
abbrev pub without_option : {A : Type 0} → Option MembershipOption → A → Option A
without_option None r = Some r
without_option (Some x) r = None

-- the option and the parts, where there is one
abbrev pub beside_option : {A : Type 0} → Option MembershipOption → A → Option (MembershipOption × A)
beside_option None r = None
beside_option (Some x) r = Some (x, r)

-- roles, members, CASCADE
abbrev pub as_revoking : Statement → Option (List (List ℕ) × (List (List ℕ) × Bool))
as_revoking (Statement.RevokeRoles x) = without_option x.option (x.roles, (x.from, x.cascade))
as_revoking _ = None

revoking_back : (o : Option MembershipOption) (roles from : List (List ℕ)) (cascade : Bool) (a : List (List ℕ) × (List (List ℕ) × Bool)) → without_option o (roles, (from, cascade)) ≡ Some a
    → Statement.RevokeRoles record { option = o; roles = roles; from = from; cascade = cascade } ≡ g.revoking_of a
revoking_back None roles from cascade a h = ap g.revoking_of (some_is (roles, (from, cascade)) a h)
revoking_back (Some x) roles from cascade a h = cc

pub revoking_law : (b : Statement) (a : List (List ℕ) × (List (List ℕ) × Bool)) → as_revoking b ≡ Some a → b ≡ g.revoking_of a
revoking_law (Statement.RevokeRoles x) a h = revoking_back x.option x.roles x.from x.cascade a h
revoking_law _ a h = cc

-- the option, roles, members, CASCADE
abbrev pub as_option_revoking : Statement → Option (MembershipOption × (List (List ℕ) × (List (List ℕ) × Bool)))
as_option_revoking (Statement.RevokeRoles x) = beside_option x.option (x.roles, (x.from, x.cascade))
as_option_revoking _ = None

option_revoking_back : (o : Option MembershipOption) (roles from : List (List ℕ)) (cascade : Bool) (a : MembershipOption × (List (List ℕ) × (List (List ℕ) × Bool))) → beside_option o (roles, (from, cascade)) ≡ Some a
    → Statement.RevokeRoles record { option = o; roles = roles; from = from; cascade = cascade } ≡ g.option_revoking_of a
option_revoking_back None roles from cascade a h = cc
option_revoking_back (Some x) roles from cascade a h = ap g.option_revoking_of (some_is (x, (roles, (from, cascade))) a h)

pub option_revoking_law : (b : Statement) (a : MembershipOption × (List (List ℕ) × (List (List ℕ) × Bool))) → as_option_revoking b ≡ Some a → b ≡ g.option_revoking_of a
option_revoking_law (Statement.RevokeRoles x) a h = option_revoking_back x.option x.roles x.from x.cascade a h
option_revoking_law _ a h = cc

-- ---- SET ROLE

-- the login, by NONE
abbrev pub as_no_role : SetRole → Option (Unit {0})
as_no_role SetRole.None = Some tt
as_no_role _ = None

pub no_role_law : (b : SetRole) (a : Unit {0}) → as_no_role b ≡ Some a → b ≡ SetRole.None
no_role_law SetRole.None a h = refl
no_role_law _ a h = cc

-- the role's name
abbrev pub as_chosen : SetRole → Option (List ℕ)
as_chosen (SetRole.To x) = Some x
as_chosen _ = None

pub chosen_law : (b : SetRole) (a : List ℕ) → as_chosen b ≡ Some a → b ≡ SetRole.To a
chosen_law (SetRole.To x) a h = ap SetRole.To (some_is x a h)
chosen_law _ a h = cc

-- the login, by RESET
abbrev pub as_reset : SetRole → Option (Unit {0})
as_reset SetRole.Reset = Some tt
as_reset _ = None

pub reset_law : (b : SetRole) (a : Unit {0}) → as_reset b ≡ Some a → b ≡ SetRole.Reset
reset_law SetRole.Reset a h = refl
reset_law _ a h = cc

-- which role is set
abbrev pub as_set_role : Statement → Option SetRole
as_set_role (Statement.SetRole x) = Some x
as_set_role _ = None

pub set_role_law : (b : Statement) (a : SetRole) → as_set_role b ≡ Some a → b ≡ Statement.SetRole a
set_role_law (Statement.SetRole x) a h = ap Statement.SetRole (some_is x a h)
set_role_law _ a h = cc
