-- A subquery gives the same in surroundings that agree on the columns that it names, and IN comes of the items that it gives.
use Rattle.std.specs.Prelude.{◌≡◌, refl, ℕ, zero, suc, nat_eq, Bool, true, false, ◌||◌, ◌&&◌, not, List, [], ◌∷◌, Option, Some, None, Result, Ok, Err, if◌then◌else◌}
use Rattle.std.proofs.Common.{arith, ap, sym, ◌∙◌, append_assoc}
use Rattle.std.proofs.lemmas.Bool.{and_parts, true≢false}
use Rattle.rls_value.specs.{declared.refusal.Refusal.Refusal, declared.object.Object.Object, declared.value.Value.Value, declared.truth.Truth.Truth, Giving.and_then, declared.value.Value.TheVariants.Null, declared.value.Value.TheVariants.Text, declared.value.Value.TheVariants.Bool as Flag, declared.truth.Truth.TheVariants.True, declared.truth.Truth.TheVariants.False, Truths.negation_of, Truths.is_true, Values.value_of_truth, Values.truth_in, Values.is_null, Values.value_at}
use Rattle.rls_source.specs.rls_catalog.specs.rls_expr.specs.declared.expr.Comparison.TheVariants as c
use Rattle.rls_source.specs.rls_catalog.specs.rls_expr.specs.Terms.{Term, Terms, Query, Literal, Column, Var, CurrentUser, Compare, And, Or, Not, IsNull, IsNotNull, InList, NotInList, Exists, InSubquery, NotInSubquery, Scalar, Sum, End, More, Select}
use Rattle.rls_verdict.specs.rls_catalog.specs.State.{State}
use Rattle.rls_source.specs.{Readings.Reading, Readings.unread, Readings.next_reads, Readings.read_then, Askings.Asking, Askings.known, Askings.followed_by, Askings.asked_if}
use Rattle.rls_evaluation.specs.declared.outer_columns.OuterColumn.{OuterColumn}
use Rattle.rls_evaluation.specs.OuterColumns.{is_among, outer_values, within, stays_in, stay_in, query_in}
use Rattle.rls_evaluation.specs.Items.{with_item, items_seen, any_equal}
use Rattle.rls_evaluation.specs.{Environments.Environment, Environments.inside, Environments.row_at, Environments.compared, Gathering.gathered}
use Rattle.rls_evaluation.specs.Eval.{Shows, and_value, or_value, or_equal, or_item, item_or, item_if, value_of, together, has_row, meets, among_items, first_item, item_of}
use Rattle.rls_evaluation.specs.Keys.{outer_value, known_value, is_column, or_else, pin_in, pin_among, pin_of, with_pin, pinned, key_of}

-- ---- one reading after another

-- three in a row, put together either way
then_then_if : {A B C : Type 0} (gives : Result A Refusal) (reads : List Object) (f : A → Reading B) (g : B → Reading C)
    → read_then (read_then (record { gives = gives; reads = reads }) f) g ≡ read_then (record { gives = gives; reads = reads }) (λ a. read_then (f a) g)
then_then_if (Ok a) reads f g = ap (λ more. record { gives = and_then (f a).gives (λ b. (g b).gives); reads = more }) (append_assoc reads (f a).reads (next_reads (f a).gives g))
then_then_if (Err refusal) reads f g = ap (λ more. record { gives = Err refusal; reads = more }) (append_assoc reads [] [])

then_then : {A B C : Type 0} (first : Reading A) (f : A → Reading B) (g : B → Reading C) → read_then (read_then first f) g ≡ read_then first (λ a. read_then (f a) g)
then_then first f g = then_then_if first.gives first.reads f g

-- the same first, and the same next
then_same : {A B : Type 0} (x y : Reading A) (f g : A → Reading B) → x ≡ y → ((a : A) → f a ≡ g a) → read_then x f ≡ read_then y g
then_same x y f g first next = λ i. read_then (first i) (λ a. next a i)

-- ---- lists that are gone through

-- what a list comes to is made of what it comes to otherwise
fused : {A B Q R : Type 0} (put : A → B → R → R) (none : R) (other : A → B → Q → Q) (nothing : Q) (made : Q → R) (ask : A → Asking B) (xs : List A) (s : State)
    → made nothing ≡ none → ((x : A) (y : B) (rest : Q) → made (other x y rest) ≡ put x y (made rest))
    → (gathered put none ask xs).in_state s ≡ read_then ((gathered other nothing ask xs).in_state s) (λ q. unread (Ok (made q)))
fused put none other nothing made ask [] s start step = λ i. unread (Ok (sym start i))
fused put none other nothing made ask (x ∷ xs) s start step =
    then_same ((ask x).in_state s) ((ask x).in_state s)
    (λ y. read_then ((gathered put none ask xs).in_state s) (λ rest. unread (Ok (put x y rest))))
    (λ y. read_then ((gathered other nothing ask xs).in_state s) (λ rest. unread (Ok (put x y (made rest)))))
    refl
    (λ y. ap (λ r. read_then r (λ rest. unread (Ok (put x y rest)))) (fused put none other nothing made ask xs s start step)
    ∙ then_then ((gathered other nothing ask xs).in_state s) (λ q. unread (Ok (made q))) (λ rest. unread (Ok (put x y rest))))
    ∙ then_same ((ask x).in_state s) ((ask x).in_state s)
    (λ y. read_then ((gathered other nothing ask xs).in_state s) (λ rest. unread (Ok (put x y (made rest)))))
    (λ y. read_then (read_then ((gathered other nothing ask xs).in_state s) (λ rest. unread (Ok (other x y rest)))) (λ q. unread (Ok (made q))))
    refl
    (λ y. (λ i. read_then ((gathered other nothing ask xs).in_state s) (λ rest. unread (Ok (sym (step x y rest) i))))
    ∙ sym (then_then ((gathered other nothing ask xs).in_state s) (λ rest. unread (Ok (other x y rest))) (λ q. unread (Ok (made q)))))
    ∙ sym (then_then ((ask x).in_state s) (λ y. read_then ((gathered other nothing ask xs).in_state s) (λ rest. unread (Ok (other x y rest)))) (λ q. unread (Ok (made q))))

-- each is asked the same
gathered_same : {A B R : Type 0} (put : A → B → R → R) (none : R) (ask other : A → Asking B) (xs : List A) (s : State) → ((x : A) → (ask x).in_state s ≡ (other x).in_state s)
    → (gathered put none ask xs).in_state s ≡ (gathered put none other xs).in_state s
gathered_same put none ask other [] s same = refl
gathered_same put none ask other (x ∷ xs) s same =
    then_same ((ask x).in_state s) ((other x).in_state s)
    (λ y. read_then ((gathered put none ask xs).in_state s) (λ rest. unread (Ok (put x y rest))))
    (λ y. read_then ((gathered put none other xs).in_state s) (λ rest. unread (Ok (put x y rest))))
    (same x)
    (λ y. ap (λ r. read_then r (λ rest. unread (Ok (put x y rest)))) (gathered_same put none ask other xs s same))

-- ---- IN comes of the items

one_more_equal : (x : Value) (row : List Value) (item : Option Value) (rest : List Value) → any_equal x (with_item row item rest) ≡ or_item x item (any_equal x rest)
one_more_equal x row None rest = refl
one_more_equal x row (Some v) rest = refl

-- IN is the OR of the equalities with the items
pub among_items_seen : (x : Value) (q : Query) (sees : Shows) (env : Environment) (s : State)
    → (among_items x q sees env).in_state s ≡ (followed_by (items_seen q sees env) (λ items. known (Ok (any_equal x items)))).in_state s
among_items_seen x (Select from key selects items condition) sees env s =
    let ask : List Value → Asking (Option Value) = λ row. item_if (meets condition sees (inside row env)) (item_of items sees (inside row env)) in
    let rows : Reading (List (List Value)) = (sees from.table (key_of key condition env)).in_state s in
    then_same rows rows
    (λ rows. (gathered (λ row item rest. or_item x item rest) False ask rows).in_state s)
    (λ rows. read_then ((gathered with_item [] ask rows).in_state s) (λ items. unread (Ok (any_equal x items))))
    refl
    (λ rows. fused (λ row item rest. or_item x item rest) False with_item [] (any_equal x) ask rows s refl (one_more_equal x))
    ∙ sym (then_then rows (λ rows. (gathered with_item [] ask rows).in_state s) (λ items. unread (Ok (any_equal x items))))

-- ---- surroundings that agree on what the test says

-- the same role, and the same values of the columns that the test says
pub record IsSameAt (named : ℕ → ℕ → Bool) (a b : Environment) : Type 0 where
  pub user : a.user ≡ b.user
  pub values : (level column : ℕ) → named level column ≡ true → value_at (row_at a.rows level) column ≡ value_at (row_at b.rows level) column

inner_same : (named : ℕ → ℕ → Bool) (a b : Environment) (row : List Value) (level column : ℕ) → IsSameAt named a b → within named level column ≡ true
    → value_at (row_at (inside row a).rows level) column ≡ value_at (row_at (inside row b).rows level) column
inner_same named a b row zero column same is = refl
inner_same named a b row (suc level) column same is = same.values level column is

-- a row more is the same
inside_same : (named : ℕ → ℕ → Bool) (a b : Environment) (row : List Value) → IsSameAt named a b → IsSameAt (within named) (inside row a) (inside row b)
inside_same named a b row same = record { user = same.user; values = λ level column is. inner_same named a b row level column same is }

abbrev head_or : Value → List Value → Value
head_or d [] = d
head_or d (v ∷ vs) = v

abbrev tail_or : List Value → List Value
tail_or [] = []
tail_or (v ∷ vs) = vs

same_number : (a b : ℕ) → nat_eq a b ≡ true → a ≡ b
same_number a b is = grind (arith, is)

among_if : (b : Bool) (outer : OuterColumn) (one other : Environment) (level column : ℕ) (rest : Bool) → (nat_eq outer.level level && nat_eq outer.column column) ≡ b → (b || rest) ≡ true
    → value_at (row_at one.rows outer.level) outer.column ≡ value_at (row_at other.rows outer.level) outer.column
    → (rest ≡ true → value_at (row_at one.rows level) column ≡ value_at (row_at other.rows level) column)
    → value_at (row_at one.rows level) column ≡ value_at (row_at other.rows level) column
among_if true outer one other level column rest at is here further =
    let parts = and_parts (nat_eq outer.level level) (nat_eq outer.column column) at in
    let row : outer.level ≡ level = same_number outer.level level parts.0 in
    let place : outer.column ≡ column = same_number outer.column column parts.1 in
    (λ i. value_at (row_at one.rows (sym row i)) (sym place i)) ∙ here ∙ (λ i. value_at (row_at other.rows (row i)) (place i))
among_if false outer one other level column rest at is here further = further is

values_same : (columns : List OuterColumn) (a b : Environment) (level column : ℕ) → outer_values columns a ≡ outer_values columns b → is_among columns level column ≡ true
    → value_at (row_at a.rows level) column ≡ value_at (row_at b.rows level) column
values_same [] a b level column same is = absurd (true≢false (sym is))
values_same (outer ∷ columns) a b level column same is =
    among_if (nat_eq outer.level level && nat_eq outer.column column) outer a b level column (is_among columns level column) refl is
    (ap (head_or Null) same) (λ further. values_same columns a b level column (ap tail_or same) further)

-- the same role, and the same values of these columns
pub same_at : (columns : List OuterColumn) (a b : Environment) → a.user ≡ b.user → outer_values columns a ≡ outer_values columns b → IsSameAt (is_among columns) a b
same_at columns a b user same = record { user = user; values = λ level column is. values_same columns a b level column same is }

-- ---- keys

outer_same : (named : ℕ → ℕ → Bool) (level column : ℕ) (a b : Environment) → IsSameAt named a b → within named level column ≡ true → outer_value level column a ≡ outer_value level column b
outer_same named zero column a b same is = refl
outer_same named (suc level) column a b same is = ap Some (same.values level column is)

known_same : (named : ℕ → ℕ → Bool) (t : Term) (a b : Environment) → IsSameAt named a b → stays_in (within named) t ≡ true → known_value t a ≡ known_value t b
known_same named (Literal v) a b same is = refl
known_same named (Column name) a b same is = refl
known_same named (Var at) a b same is = outer_same named at.level at.column a b same is
known_same named CurrentUser a b same is = ap (λ user. Some (Text user)) same.user
known_same named (Compare how x y) a b same is = refl
known_same named (And ts) a b same is = refl
known_same named (Or ts) a b same is = refl
known_same named (Not t) a b same is = refl
known_same named (IsNull t) a b same is = refl
known_same named (IsNotNull t) a b same is = refl
known_same named (InList t ts) a b same is = refl
known_same named (NotInList t ts) a b same is = refl
known_same named (Exists q) a b same is = refl
known_same named (InSubquery t q) a b same is = refl
known_same named (NotInSubquery t q) a b same is = refl
known_same named (Scalar q) a b same is = refl
known_same named (Sum signs ts) a b same is = refl

pin_in_same : (named : ℕ → ℕ → Bool) (column : ℕ) (t : Term) (a b : Environment) → IsSameAt named a b → stays_in (within named) t ≡ true → pin_in column t a ≡ pin_in column t b
pin_in_same named column (Literal v) a b same is = refl
pin_in_same named column (Column name) a b same is = refl
pin_in_same named column (Var at) a b same is = refl
pin_in_same named column CurrentUser a b same is = refl
pin_in_same named column (Compare c.Equal x y) a b same is =
    let parts = and_parts (stays_in (within named) x) (stays_in (within named) y) is in
    λ i. or_else (if is_column column x then known_same named y a b same parts.1 i else None) (if is_column column y then known_same named x a b same parts.0 i else None)
pin_in_same named column (Compare c.NotEqual x y) a b same is = refl
pin_in_same named column (Compare c.Less x y) a b same is = refl
pin_in_same named column (Compare c.LessOrEqual x y) a b same is = refl
pin_in_same named column (Compare c.Greater x y) a b same is = refl
pin_in_same named column (Compare c.GreaterOrEqual x y) a b same is = refl
pin_in_same named column (And ts) a b same is = refl
pin_in_same named column (Or ts) a b same is = refl
pin_in_same named column (Not t) a b same is = refl
pin_in_same named column (IsNull t) a b same is = refl
pin_in_same named column (IsNotNull t) a b same is = refl
pin_in_same named column (InList t ts) a b same is = refl
pin_in_same named column (NotInList t ts) a b same is = refl
pin_in_same named column (Exists q) a b same is = refl
pin_in_same named column (InSubquery t q) a b same is = refl
pin_in_same named column (NotInSubquery t q) a b same is = refl
pin_in_same named column (Scalar q) a b same is = refl
pin_in_same named column (Sum signs ts) a b same is = refl

pin_among_same : (named : ℕ → ℕ → Bool) (column : ℕ) (ts : Terms) (a b : Environment) → IsSameAt named a b → stay_in (within named) ts ≡ true → pin_among column ts a ≡ pin_among column ts b
pin_among_same named column End a b same is = refl
pin_among_same named column (More t ts) a b same is =
    let parts = and_parts (stays_in (within named) t) (stay_in (within named) ts) is in
    λ i. or_else (pin_in_same named column t a b same parts.0 i) (pin_among_same named column ts a b same parts.1 i)

pin_same : (named : ℕ → ℕ → Bool) (column : ℕ) (t : Term) (a b : Environment) → IsSameAt named a b → stays_in (within named) t ≡ true → pin_of column t a ≡ pin_of column t b
pin_same named column (Literal v) a b same is = refl
pin_same named column (Column name) a b same is = refl
pin_same named column (Var at) a b same is = refl
pin_same named column CurrentUser a b same is = refl
pin_same named column (Compare how x y) a b same is = pin_in_same named column (Compare how x y) a b same is
pin_same named column (And ts) a b same is = pin_among_same named column ts a b same is
pin_same named column (Or ts) a b same is = refl
pin_same named column (Not t) a b same is = refl
pin_same named column (IsNull t) a b same is = refl
pin_same named column (IsNotNull t) a b same is = refl
pin_same named column (InList t ts) a b same is = refl
pin_same named column (NotInList t ts) a b same is = refl
pin_same named column (Exists q) a b same is = refl
pin_same named column (InSubquery t q) a b same is = refl
pin_same named column (NotInSubquery t q) a b same is = refl
pin_same named column (Scalar q) a b same is = refl
pin_same named column (Sum signs ts) a b same is = refl

pinned_same : (named : ℕ → ℕ → Bool) (columns : List ℕ) (t : Term) (a b : Environment) → IsSameAt named a b → stays_in (within named) t ≡ true → pinned columns t a ≡ pinned columns t b
pinned_same named [] t a b same is = refl
pinned_same named (column ∷ columns) t a b same is = λ i. with_pin (pin_same named column t a b same is i) (pinned_same named columns t a b same is i)

key_same : (named : ℕ → ℕ → Bool) (columns : List ℕ) (condition : Terms) (a b : Environment) → IsSameAt named a b → stay_in (within named) condition ≡ true → key_of columns condition a ≡ key_of columns condition b
key_same named columns End a b same is = refl
key_same named [] (More t ts) a b same is = refl
key_same named (column ∷ columns) (More t ts) a b same is =
    pinned_same named (column ∷ columns) t a b same (and_parts (stays_in (within named) t) (stay_in (within named) ts) is).0

-- ---- values

-- the rows that a subquery ranges over, each asked the same
ranged_same : {B R : Type 0} (put : List Value → B → R → R) (none : R) (table : List ℕ) (sees : Shows) (one other : Option (List Value)) (ask asked : List Value → Asking B) (s : State)
    → one ≡ other → ((row : List Value) → (ask row).in_state s ≡ (asked row).in_state s)
    → (followed_by (sees table one) (λ rows. gathered put none ask rows)).in_state s ≡ (followed_by (sees table other) (λ rows. gathered put none asked rows)).in_state s
ranged_same put none table sees one other ask asked s key same =
    then_same ((sees table one).in_state s) ((sees table other).in_state s) (λ rows. (gathered put none ask rows).in_state s) (λ rows. (gathered put none asked rows).in_state s)
    (ap (λ k. (sees table k).in_state s) key) (λ rows. gathered_same put none ask asked rows s same)

-- what an item comes to, if the row meets WHERE
item_if_same : (one other : Asking Bool) (item another : Asking Value) (s : State) → one.in_state s ≡ other.in_state s → item.in_state s ≡ another.in_state s
    → (item_if one item).in_state s ≡ (item_if other another).in_state s
item_if_same one other item another s met same =
    λ i. read_then (met i) (λ is. if is then read_then (same i) (λ v. unread (Ok (Some v))) else unread (Ok None))

mutual
  pub value_same : (named : ℕ → ℕ → Bool) (t : Term) (sees : Shows) (a b : Environment) (s : State) → IsSameAt named a b → stays_in named t ≡ true → (value_of t sees a).in_state s ≡ (value_of t sees b).in_state s
  value_same named (Literal v) sees a b s same is = refl
  value_same named (Column name) sees a b s same is = refl
  value_same named (Var at) sees a b s same is = ap (λ v. unread (Ok v)) (same.values at.level at.column is)
  value_same named CurrentUser sees a b s same is = ap (λ user. unread (Ok (Text user))) same.user
  value_same named (Compare how x y) sees a b s same is =
      let parts = and_parts (stays_in named x) (stays_in named y) is in
      λ i. read_then (value_same named x sees a b s same parts.0 i) (λ v. read_then (value_same named y sees a b s same parts.1 i) (λ w. unread (Ok (value_of_truth (compared how v w)))))
  value_same named (And ts) sees a b s same is = λ i. read_then (together_same named and_value True ts sees a b s same is i) (λ truth. unread (Ok (value_of_truth truth)))
  value_same named (Or ts) sees a b s same is = λ i. read_then (together_same named or_value False ts sees a b s same is i) (λ truth. unread (Ok (value_of_truth truth)))
  value_same named (Not t) sees a b s same is = λ i. read_then (value_same named t sees a b s same is i) (λ x. unread (Ok (value_of_truth (negation_of (truth_in x)))))
  value_same named (IsNull t) sees a b s same is = λ i. read_then (value_same named t sees a b s same is i) (λ x. unread (Ok (Flag (is_null x))))
  value_same named (IsNotNull t) sees a b s same is = λ i. read_then (value_same named t sees a b s same is i) (λ x. unread (Ok (Flag (not (is_null x)))))
  value_same named (InList t ts) sees a b s same is =
      let parts = and_parts (stays_in named t) (stay_in named ts) is in
      λ i. read_then (value_same named t sees a b s same parts.0 i) (λ x. read_then (together_same named (or_equal x) False ts sees a b s same parts.1 i) (λ truth. unread (Ok (value_of_truth truth))))
  value_same named (NotInList t ts) sees a b s same is =
      let parts = and_parts (stays_in named t) (stay_in named ts) is in
      λ i. read_then (value_same named t sees a b s same parts.0 i) (λ x. read_then (together_same named (or_equal x) False ts sees a b s same parts.1 i) (λ truth. unread (Ok (value_of_truth (negation_of truth)))))
  value_same named (Exists q) sees a b s same is = λ i. read_then (has_row_same named q sees a b s same is i) (λ is. unread (Ok (Flag is)))
  value_same named (InSubquery t q) sees a b s same is =
      let parts = and_parts (stays_in named t) (query_in named q) is in
      λ i. read_then (value_same named t sees a b s same parts.0 i) (λ x. read_then (among_same named x q sees a b s same parts.1 i) (λ truth. unread (Ok (value_of_truth truth))))
  value_same named (NotInSubquery t q) sees a b s same is =
      let parts = and_parts (stays_in named t) (query_in named q) is in
      λ i. read_then (value_same named t sees a b s same parts.0 i) (λ x. read_then (among_same named x q sees a b s same parts.1 i) (λ truth. unread (Ok (value_of_truth (negation_of truth)))))
  value_same named (Scalar q) sees a b s same is = first_same named q sees a b s same is
  value_same named (Sum signs ts) sees a b s same is = absurd (true≢false (sym is))

  together_same : (named : ℕ → ℕ → Bool) (put : Value → Truth → Truth) (none : Truth) (ts : Terms) (sees : Shows) (a b : Environment) (s : State) → IsSameAt named a b → stay_in named ts ≡ true
      → (together put none ts sees a).in_state s ≡ (together put none ts sees b).in_state s
  together_same named put none End sees a b s same is = refl
  together_same named put none (More t ts) sees a b s same is =
      let parts = and_parts (stays_in named t) (stay_in named ts) is in
      λ i. read_then (value_same named t sees a b s same parts.0 i) (λ v. read_then (together_same named put none ts sees a b s same parts.1 i) (λ rest. unread (Ok (put v rest))))

  pub has_row_same : (named : ℕ → ℕ → Bool) (q : Query) (sees : Shows) (a b : Environment) (s : State) → IsSameAt named a b → query_in named q ≡ true → (has_row q sees a).in_state s ≡ (has_row q sees b).in_state s
  has_row_same named (Select from key selects items condition) sees a b s same is =
      let parts = and_parts (stay_in (within named) items) (stay_in (within named) condition) is in
      ranged_same (λ row is rest. is || rest) false from.table sees (key_of key condition a) (key_of key condition b)
      (λ row. meets condition sees (inside row a)) (λ row. meets condition sees (inside row b)) s
      (key_same named key condition a b same parts.1)
      (λ row. meets_same (within named) condition sees (inside row a) (inside row b) s (inside_same named a b row same) parts.1)

  meets_same : (named : ℕ → ℕ → Bool) (ts : Terms) (sees : Shows) (a b : Environment) (s : State) → IsSameAt named a b → stay_in named ts ≡ true → (meets ts sees a).in_state s ≡ (meets ts sees b).in_state s
  meets_same named End sees a b s same is = refl
  meets_same named (More t ts) sees a b s same is =
      λ i. read_then (value_same named t sees a b s same (and_parts (stays_in named t) (stay_in named ts) is).0 i) (λ v. unread (Ok (is_true (truth_in v))))

  among_same : (named : ℕ → ℕ → Bool) (x : Value) (q : Query) (sees : Shows) (a b : Environment) (s : State) → IsSameAt named a b → query_in named q ≡ true → (among_items x q sees a).in_state s ≡ (among_items x q sees b).in_state s
  among_same named x (Select from key selects items condition) sees a b s same is =
      let parts = and_parts (stay_in (within named) items) (stay_in (within named) condition) is in
      ranged_same (λ row item rest. or_item x item rest) False from.table sees (key_of key condition a) (key_of key condition b)
      (λ row. item_if (meets condition sees (inside row a)) (item_of items sees (inside row a)))
      (λ row. item_if (meets condition sees (inside row b)) (item_of items sees (inside row b))) s
      (key_same named key condition a b same parts.1)
      (λ row. item_if_same (meets condition sees (inside row a)) (meets condition sees (inside row b)) (item_of items sees (inside row a)) (item_of items sees (inside row b)) s
      (meets_same (within named) condition sees (inside row a) (inside row b) s (inside_same named a b row same) parts.1)
      (item_same (within named) items sees (inside row a) (inside row b) s (inside_same named a b row same) parts.0))

  pub first_same : (named : ℕ → ℕ → Bool) (q : Query) (sees : Shows) (a b : Environment) (s : State) → IsSameAt named a b → query_in named q ≡ true → (first_item q sees a).in_state s ≡ (first_item q sees b).in_state s
  first_same named (Select from key selects items condition) sees a b s same is =
      let parts = and_parts (stay_in (within named) items) (stay_in (within named) condition) is in
      ranged_same (λ row item rest. item_or item rest) Null from.table sees (key_of key condition a) (key_of key condition b)
      (λ row. item_if (meets condition sees (inside row a)) (item_of items sees (inside row a)))
      (λ row. item_if (meets condition sees (inside row b)) (item_of items sees (inside row b))) s
      (key_same named key condition a b same parts.1)
      (λ row. item_if_same (meets condition sees (inside row a)) (meets condition sees (inside row b)) (item_of items sees (inside row a)) (item_of items sees (inside row b)) s
      (meets_same (within named) condition sees (inside row a) (inside row b) s (inside_same named a b row same) parts.1)
      (item_same (within named) items sees (inside row a) (inside row b) s (inside_same named a b row same) parts.0))

  item_same : (named : ℕ → ℕ → Bool) (ts : Terms) (sees : Shows) (a b : Environment) (s : State) → IsSameAt named a b → stay_in named ts ≡ true → (item_of ts sees a).in_state s ≡ (item_of ts sees b).in_state s
  item_same named End sees a b s same is = refl
  item_same named (More t ts) sees a b s same is = value_same named t sees a b s same (and_parts (stays_in named t) (stay_in named ts) is).0

-- the items are the same, too
pub seen_same : (named : ℕ → ℕ → Bool) (q : Query) (sees : Shows) (a b : Environment) (s : State) → IsSameAt named a b → query_in named q ≡ true → (items_seen q sees a).in_state s ≡ (items_seen q sees b).in_state s
seen_same named (Select from key selects items condition) sees a b s same is =
    let parts = and_parts (stay_in (within named) items) (stay_in (within named) condition) is in
    ranged_same with_item [] from.table sees (key_of key condition a) (key_of key condition b)
    (λ row. item_if (meets condition sees (inside row a)) (item_of items sees (inside row a)))
    (λ row. item_if (meets condition sees (inside row b)) (item_of items sees (inside row b))) s
    (key_same named key condition a b same parts.1)
    (λ row. item_if_same (meets condition sees (inside row a)) (meets condition sees (inside row b)) (item_of items sees (inside row a)) (item_of items sees (inside row b)) s
    (meets_same (within named) condition sees (inside row a) (inside row b) s (inside_same named a b row same) parts.1)
    (item_same (within named) items sees (inside row a) (inside row b) s (inside_same named a b row same) parts.0))
