-- Reading by the key that WHERE pins leaves out no row that it holds of.
use Rattle.std.specs.Prelude.{◌≡◌, refl, ℕ, zero, suc, List, [], ◌∷◌, Option, Some, None, Bool, true, false, ◌&&◌, ◌||◌, cond, Result, Ok, Err, filter, if◌then◌else◌}
use Rattle.std.specs.{List.All, List.AllByRecursion, List.list_any}
use Rattle.std.proofs.{Common.ap, Common.sym, Common.subst, Common.◌∙◌, lemmas.Bool.true≢false, lemmas.Bool.and_parts, lemmas.Bool.eqb-true, lemmas.Bool.or_left, lemmas.Bool.or_right, lemmas.Bool.Decides.Decides-int_eq, lemmas.List.Elements.All-head, lemmas.List.Elements.All-tail, lemmas.Option.none-some, lemmas.Option.same_Some}
use Rattle.rls_value.specs.{declared.refusal.Refusal.Refusal, declared.row.RowId.RowId, Giving.and_then, declared.truth.Truth.Truth, declared.value.Value.Value, declared.truth.Truth.TheVariants.True, declared.truth.Truth.TheVariants.False, declared.truth.Truth.TheVariants.Unknown, Truths.is_true, Truths.truth_of, Truths.conjunction_of, Values.equal_values, Values.is_null, Values.same_flag, Values.truth_in, Values.value_at, Values.value_of_truth}
use Rattle.rls_expr.specs.{declared.expr.Comparison.Comparison, declared.table.TableDef.TableDef, Terms.Term, Terms.Terms, Terms.Literal, Terms.Var, Terms.CurrentUser, Terms.Compare, Terms.And, Terms.End, Terms.More, Terms.maybe_term}
use Rattle.rls_guard.specs.rls_catalog.specs.{declared.stored.Stored.Stored, State.State, State.is_same_id, State.is_same_row, State.is_same_value, State.rows_of}
use Rattle.rls_guard.specs.rls_catalog.proofs.Walks.{bytes_own, bytes_same}
use Rattle.rls_guard.specs.rls_source.specs.{Asked.rows_at, Asked.keyed_at, Asked.asked_key, Askings.asked_if, Askings.known, Askings.followed_by}
use Rattle.rls_evaluation.specs.Keys.{is_column, known_value, or_else, outer_value, pin_among, pin_by, pin_in, pin_of, pinned, with_pin}
use Rattle.rls_evaluation.specs.{Environments.alone, Environments.over, Environments.row_at, Eval.Shows, Eval.and_value, Eval.meets, Eval.together, Eval.value_of}
use Rattle.rls_judging.specs.ScannedRows.{scanned_rows, scanned_rows_with, pinned_key}
use Rattle.rls_dml.specs.{Keys.CarryKeys, Numbers.has_number, Writing.key_at}
use Rattle.rls_dml.proofs.FittingLemmas.{own_number}

-- false is not true
no : {A : Type 0} → false ≡ true → A
no is = absurd (true≢false (sym is))

-- nothing is not something
never : {A X : Type 0} (x : X) → None ≡ Some x → A
never x is = absurd (none-some x is)

-- ---- truth values

-- a test whose truth value is true is passed
true_test : (b : Bool) → is_true (truth_of b) ≡ true → b ≡ true
true_test true is = refl
true_test false is = no is

-- a truth value that is a value and one again is itself
true_again : (t : Truth) → is_true (truth_in (value_of_truth t)) ≡ true → is_true t ≡ true
true_again True is = refl
true_again False is = no is
true_again Unknown is = no is

-- where an AND is true, both are
both_true : (a b : Truth) → is_true (conjunction_of a b) ≡ true → (is_true a ≡ true) × (is_true b ≡ true)
both_true True b is = (refl, is)
both_true False b is = no is
both_true Unknown True is = no is
both_true Unknown False is = no is
both_true Unknown Unknown is = no is

-- ---- values

-- booleans by their test
same_flags : (a b : Bool) → same_flag a b ≡ true → a ≡ b
same_flags true true is = refl
same_flags true false is = no is
same_flags false true is = no is
same_flags false false is = refl

-- a boolean is the same as itself
own_flag : (a : Bool) → same_flag a a ≡ true
own_flag true = refl
own_flag false = refl

-- a value is the same as itself, null too
own_value : (x : Value) → is_same_value x x ≡ true
own_value Value.Null = refl
own_value (Value.Int a) = (Decides-int_eq a a).1 refl
own_value (Value.Text a) = bytes_own a
own_value (Value.Bool a) = own_flag a

-- the two are the same, and no null
abbrev AreSame : Value → Value → Type 0
AreSame x y = (x ≡ y) × (is_null y ≡ false)

-- where an equality is true
equal_means : (x y : Value) → is_true (equal_values x y) ≡ true → AreSame x y
equal_means (Value.Int a) (Value.Int b) is = (ap Value.Int ((Decides-int_eq a b).0 (true_test _ is)), refl)
equal_means (Value.Text a) (Value.Text b) is = (ap Value.Text (bytes_same a b (true_test _ is)), refl)
equal_means (Value.Bool a) (Value.Bool b) is = (ap Value.Bool (same_flags a b (true_test _ is)), refl)
equal_means x y is = no is

-- from the other side
turned : (x y : Value) → AreSame x y → AreSame y x
turned x y same = (sym same.0, ap is_null same.0 ∙ same.1)

-- ---- what a question gives

-- something is given
abbrev is_given : {A : Type 0} → Result A Refusal → Bool
is_given (Ok a) = true
is_given (Err refusal) = false

-- what is given
abbrev given_or : {A : Type 0} → A → Result A Refusal → A
given_or other (Ok a) = a
given_or other (Err refusal) = other

-- the same is given
same_given : {A : Type 0} (a b : A) → ◌≡◌ {A = Result A Refusal} (Ok a) (Ok b) → a ≡ b
same_given a b is = ap (given_or b) is

-- what was given first, and then
parts_of : {A B : Type 0} (given : Result A Refusal) (next : A → Result B Refusal) (b : B) → and_then given next ≡ Ok b → (a : A) × ((given ≡ Ok a) × (next a ≡ Ok b))
parts_of (Ok a) next b is = (a, (refl, is))
parts_of (Err refusal) next b is = absurd (true≢false (sym (ap is_given is)))

-- ---- one column

-- the value of a term for a row
abbrev IsWorth : State → Shows → List ℕ → List Value → Term → Value → Type 0
IsWorth s sees user row t v = ((value_of t sees (over user row)).in_state s).gives ≡ Ok v

-- a column further out is none
outer_alone : (user : List ℕ) (row : List Value) (level column : ℕ) (x y : Value) → outer_value level column (alone user) ≡ Some y → value_at (row_at (row ∷ []) level) column ≡ x → x ≡ y
outer_alone user row zero column x y is worth = never y is
outer_alone user row (suc level) column x y is worth = sym worth ∙ same_Some (value_at (row_at [] level) column) y is

-- what is known without a row is the same over each
known_alone : (s : State) (sees : Shows) (user : List ℕ) (row : List Value) (t : Term) (x y : Value) → known_value t (alone user) ≡ Some y → IsWorth s sees user row t x → x ≡ y
known_alone s sees user row (Literal value) x y is worth = sym (same_given value x worth) ∙ same_Some value y is
known_alone s sees user row (Var at) x y is worth = outer_alone user row at.level at.column x y is (same_given (value_at (row_at (row ∷ []) at.level) at.column) x worth)
known_alone s sees user row CurrentUser x y is worth = sym (same_given (Value.Text user) x worth) ∙ same_Some (Value.Text user) y is
known_alone s sees user row t x y is worth = never y is

-- the column's value is the row's at its place
column_value : (s : State) (sees : Shows) (user : List ℕ) (row : List Value) (place : ℕ) (t : Term) (x : Value) → is_column place t ≡ true → IsWorth s sees user row t x → x ≡ value_at row place
column_value s sees user row place (Var at) x is worth =
    let parts = and_parts _ _ is in
    sym (same_given (value_at (row_at (row ∷ []) at.level) at.column) x worth) ∙ (λ i. value_at (row_at (row ∷ []) (eqb-true at.level 0 parts.0 i)) (eqb-true at.column place parts.1 i))
column_value s sees user row place t x is worth = no is

-- what is there under a test
by_test : {P : Type 0} (b : Bool) (o : Option Value) (v : Value) → (b ≡ true → o ≡ Some v → P) → (if b then o else None) ≡ Some v → P
by_test true o v both is = both refl is
by_test false o v both is = never v is

-- the column on the one side, what is known on the other
sides_means : (s : State) (sees : Shows) (user : List ℕ) (row : List Value) (place : ℕ) (column pin : Term) (x y v : Value) → pin_by place column pin (alone user) ≡ Some v
    → IsWorth s sees user row column x → IsWorth s sees user row pin y → AreSame x y → AreSame (value_at row place) v
sides_means s sees user row place column pin x y v is here there same =
    by_test (is_column place column) (known_value pin (alone user)) v
    (λ at told. let worth = known_alone s sees user row pin y v told there in (sym (column_value s sees user row place column x at here) ∙ same.0 ∙ worth, ap is_null (sym worth) ∙ same.1))
    is

-- the first pin, or the other
either_pin : {P : Type 0} (first other : Option Value) (v : Value) → (first ≡ Some v → P) → (other ≡ Some v → P) → or_else first other ≡ Some v → P
either_pin (Some x) other v one two is = one is
either_pin None other v one two is = two is

-- the term is true of the row
record IsTrueOf (s : State) (sees : Shows) (user : List ℕ) (row : List Value) (t : Term) : Type 0 where
  value : Value
  worth : IsWorth s sees user row t value
  holds : is_true (truth_in value) ≡ true

-- an equality that pins the column and is true of the row
pinned_in : (s : State) (sees : Shows) (user : List ℕ) (row : List Value) (place : ℕ) (t : Term) (v : Value) → pin_in place t (alone user) ≡ Some v → IsTrueOf s sees user row t → AreSame (value_at row place) v
pinned_in s sees user row place (Compare Comparison.Equal a b) v is true_of =
    let left = parts_of ((value_of a sees (over user row)).in_state s).gives (λ x. ((followed_by (value_of b sees (over user row)) (λ y. known (Ok (value_of_truth (equal_values x y))))).in_state s).gives) true_of.value true_of.worth in
    let right = parts_of ((value_of b sees (over user row)).in_state s).gives (λ y. Ok (value_of_truth (equal_values left.0 y))) true_of.value left.1.1 in
    let same = equal_means left.0 right.0 (true_again (equal_values left.0 right.0) (ap (λ v. is_true (truth_in v)) (same_given (value_of_truth (equal_values left.0 right.0)) true_of.value right.1.1) ∙ true_of.holds)) in
    either_pin (pin_by place a b (alone user)) (pin_by place b a (alone user)) v
    (λ first. sides_means s sees user row place a b left.0 right.0 v first left.1.0 right.1.0 same)
    (λ second. sides_means s sees user row place b a right.0 left.0 v second right.1.0 left.1.0 (turned left.0 right.0 same))
    is
pinned_in s sees user row place t v is true_of = never v is

-- an AND of which a part pins the column, and that is true of the row
pinned_among : (s : State) (sees : Shows) (user : List ℕ) (row : List Value) (place : ℕ) (ts : Terms) (v : Value) (truth : Truth) → pin_among place ts (alone user) ≡ Some v
    → ((together and_value True ts sees (over user row)).in_state s).gives ≡ Ok truth → is_true truth ≡ true → AreSame (value_at row place) v
pinned_among s sees user row place End v truth is given holds = never v is
pinned_among s sees user row place (More t ts) v truth is given holds =
    let first = parts_of ((value_of t sees (over user row)).in_state s).gives (λ v. ((followed_by (together and_value True ts sees (over user row)) (λ rest. known (Ok (and_value v rest)))).in_state s).gives) truth given in
    let rest = parts_of ((together and_value True ts sees (over user row)).in_state s).gives (λ rest. Ok (and_value first.0 rest)) truth first.1.1 in
    let parts = both_true (truth_in first.0) rest.0 (ap is_true (same_given (and_value first.0 rest.0) truth rest.1.1) ∙ holds) in
    either_pin (pin_in place t (alone user)) (pin_among place ts (alone user)) v
    (λ here. pinned_in s sees user row place t v here (record { value = first.0; worth = first.1.0; holds = parts.0 }))
    (λ there. pinned_among s sees user row place ts v rest.0 there rest.1.0 parts.1)
    is

-- a condition that pins the column and is true of the row
pinned_of : (s : State) (sees : Shows) (user : List ℕ) (row : List Value) (place : ℕ) (t : Term) (v : Value) → pin_of place t (alone user) ≡ Some v → IsTrueOf s sees user row t → AreSame (value_at row place) v
pinned_of s sees user row place (And ts) v is true_of =
    let truth = parts_of ((together and_value True ts sees (over user row)).in_state s).gives (λ truth. Ok (value_of_truth truth)) true_of.value true_of.worth in
    pinned_among s sees user row place ts v truth.0 is truth.1.0 (true_again truth.0 (ap (λ v. is_true (truth_in v)) (same_given (value_of_truth truth.0) true_of.value truth.1.1) ∙ true_of.holds))
pinned_of s sees user row place t v is true_of = pinned_in s sees user row place t v is true_of

-- ---- the key

-- the row has the key, and there is no null in it
abbrev HasKey : List ℕ → List Value → List Value → Type 0
HasKey places row key = (is_same_row (key_at places row) key ≡ true) × (list_any is_null key ≡ false)

-- a place more
longer_key : (places : List ℕ) (row key : List Value) (place : ℕ) (value : Value) → AreSame (value_at row place) value → HasKey places row key → HasKey (place ∷ places) row (value ∷ key)
longer_key places row key place value same has =
    ((λ i. (ap (λ x. is_same_value x value) same.0 ∙ own_value value) i && has.0 i), (λ i. same.1 i || has.1 i))

-- where the first place has a pin and the others have theirs
both_pins : (row : List Value) (place : ℕ) (places : List ℕ) (pin : Option Value) (more : Option (List Value)) (key : List Value)
    → ((v : Value) → pin ≡ Some v → AreSame (value_at row place) v) → ((vs : List Value) → more ≡ Some vs → HasKey places row vs)
    → with_pin pin more ≡ Some key → HasKey (place ∷ places) row key
both_pins row place places (Some v) (Some vs) key one others is =
    subst (HasKey (place ∷ places) row) (same_Some (v ∷ vs) key is) (longer_key places row vs place v (one v refl) (others vs refl))
both_pins row place places (Some v) None key one others is = never key is
both_pins row place places None more key one others is = never key is

-- a row of which the condition holds has the values of its pins
pins_means : (s : State) (sees : Shows) (user : List ℕ) (row : List Value) (places : List ℕ) (condition : Term) (key : List Value) → pinned places condition (alone user) ≡ Some key → IsTrueOf s sees user row condition → HasKey places row key
pins_means s sees user row [] condition key is true_of = subst (HasKey [] row) (same_Some [] key is) (refl, refl)
pins_means s sees user row (place ∷ places) condition key is true_of =
    both_pins row place places (pin_of place condition (alone user)) (pinned places condition (alone user)) key
    (λ v here. pinned_of s sees user row place condition v here true_of)
    (λ vs there. pins_means s sees user row places condition vs there true_of)
    is

-- WHERE is true of the row
true_where : (s : State) (sees : Shows) (user : List ℕ) (row : List Value) (condition : Term) → ((meets (maybe_term (Some condition)) sees (over user row)).in_state s).gives ≡ Ok true → IsTrueOf s sees user row condition
true_where s sees user row condition met =
    let parts = parts_of ((value_of condition sees (over user row)).in_state s).gives (λ v. Ok (is_true (truth_in v))) true met in
    record { value = parts.0; worth = parts.1.0; holds = same_given (is_true (truth_in parts.0)) true parts.1.1 }

-- a row that meets the condition has the key that it pins
key_means : (s : State) (sees : Shows) (user : List ℕ) (row : List Value) (places : List ℕ) (condition : Option Term) (key : List Value) → pinned_key user places condition ≡ Some key
    → ((meets (maybe_term condition) sees (over user row)).in_state s).gives ≡ Ok true → HasKey places row key
key_means s sees user row places None key is met = never key is
key_means s sees user row [] (Some condition) key is met = never key is
key_means s sees user row (place ∷ places) (Some condition) key is met = pins_means s sees user row (place ∷ places) condition key is (true_where s sees user row condition met)

-- ---- rows

-- it holds of each where another does that it follows from
all_weaker : (P Q : Stored → Type 0) → ((stored : Stored) → P stored → Q stored) → (rows : List Stored) → AllByRecursion P rows → AllByRecursion Q rows
all_weaker P Q follows [] all = tt
all_weaker P Q follows (stored ∷ rows) all = (follows stored all.0, all_weaker P Q follows rows all.1)

-- or two others
both_weaker : (P R Q : Stored → Type 0) → ((stored : Stored) → P stored → R stored → Q stored) → (rows : List Stored) → AllByRecursion P rows → AllByRecursion R rows → AllByRecursion Q rows
both_weaker P R Q follows [] all other = tt
both_weaker P R Q follows (stored ∷ rows) all other = (follows stored all.0 other.0, both_weaker P R Q follows rows all.1 other.1)

-- of each, one after another
all_by : (P : Stored → Type 0) (rows : List Stored) → All P rows → AllByRecursion P rows
all_by P [] all = tt
all_by P (stored ∷ rows) all = (All-head P stored rows all, all_by P rows (All-tail P stored rows all))

-- a number is itself
has_first : (stored : Stored) (rows : List Stored) → has_number (stored ∷ rows) stored.id ≡ true
has_first stored rows = or_left (is_same_id stored.id stored.id) (has_number rows stored.id) (own_number stored.id)

-- behind others it is there too
has_behind : (first : Stored) (rows : List Stored) (id : RowId) → has_number rows id ≡ true → has_number (first ∷ rows) id ≡ true
has_behind first rows id has = or_right (is_same_id id first.id) (has_number rows id) has

kept_if : (test : Stored → Bool) (b : Bool) (first : Stored) (rows : List Stored) (stored : Stored) → has_number (filter test rows) stored.id ≡ true → has_number (cond b (first ∷ filter test rows) (filter test rows)) stored.id ≡ true
kept_if test true first rows stored has = has_behind first (filter test rows) stored.id has
kept_if test false first rows stored has = has

first_if : (test : Stored → Bool) (b : Bool) (stored : Stored) (rows : List Stored) → b ≡ true → has_number (cond b (stored ∷ filter test rows) (filter test rows)) stored.id ≡ true
first_if test true stored rows is = has_first stored (filter test rows)
first_if test false stored rows is = no is

-- the rows that pass a test are there behind it
each_kept : (test : Stored → Bool) (rows : List Stored) → AllByRecursion (λ stored. test stored ≡ true → has_number (filter test rows) stored.id ≡ true) rows
each_kept test [] = tt
each_kept test (stored ∷ rows) = (
  λ is. first_if test (test stored) stored rows is,
  all_weaker (λ other. test other ≡ true → has_number (filter test rows) other.id ≡ true) (λ other. test other ≡ true → has_number (filter test (stored ∷ rows)) other.id ≡ true)
      (λ other kept is. kept_if test (test stored) stored rows other (kept is)) rows (each_kept test rows),
)

-- each row is there
each_there : (rows : List Stored) → AllByRecursion (λ stored. has_number rows stored.id ≡ true) rows
each_there [] = tt
each_there (stored ∷ rows) = (has_first stored rows, all_weaker (λ other. has_number rows other.id ≡ true) (λ other. has_number (stored ∷ rows) other.id ≡ true) (λ other has. has_behind stored rows other.id has) rows (each_there rows))

-- ---- the statement's rows

-- the rows that are given
abbrev rows_in : Result (List Stored) Refusal → List Stored
rows_in (Ok rows) = rows
rows_in (Err refusal) = []

-- the row is looked at where it meets the condition
abbrev IsLooked : State → Shows → List ℕ → Option Term → List Stored → Stored → Type 0
IsLooked s sees user condition rows stored = ((meets (maybe_term condition) sees (over user stored.row)).in_state s).gives ≡ Ok true → has_number rows stored.id ≡ true

-- nothing is read for a key with a null, and no row meets the condition
keyed_rows : (s : State) (sees : Shows) (user name places : List ℕ) (condition : Option Term) (rows : List Stored) (key : List Value) (nulls : Bool)
    → pinned_key user places condition ≡ Some key → list_any is_null key ≡ nulls → CarryKeys places (rows_of s name)
    → ((asked_if nulls (known (Ok [])) (asked_key name key)).in_state s).gives ≡ Ok rows → AllByRecursion (IsLooked s sees user condition rows) (rows_of s name)
unfolding keyed_at
keyed_rows s sees user name places condition rows key true pinned null carry given =
    all_weaker (λ stored. stored.key ≡ key_at places stored.row) (IsLooked s sees user condition rows)
    (λ stored own met. no (sym (key_means s sees user stored.row places condition key pinned met).1 ∙ null)) (rows_of s name) (all_by (λ stored. stored.key ≡ key_at places stored.row) (rows_of s name) carry)
keyed_rows s sees user name places condition rows key false pinned null carry given =
    both_weaker (λ stored. stored.key ≡ key_at places stored.row) (λ stored. is_same_row stored.key key ≡ true → has_number (filter (λ stored. is_same_row stored.key key) (rows_of s name)) stored.id ≡ true)
    (IsLooked s sees user condition rows)
    (λ stored own kept met. ap (λ all. has_number all stored.id) (sym (ap rows_in given)) ∙ kept (ap (λ k. is_same_row k key) own ∙ (key_means s sees user stored.row places condition key pinned met).0))
    (rows_of s name) (all_by (λ stored. stored.key ≡ key_at places stored.row) (rows_of s name) carry) (each_kept (λ stored. is_same_row stored.key key) (rows_of s name))

-- by the key, or all of them
rows_with : (s : State) (sees : Shows) (user name places : List ℕ) (condition : Option Term) (rows : List Stored) (key : Option (List Value))
    → pinned_key user places condition ≡ key → CarryKeys places (rows_of s name)
    → ((scanned_rows_with name key).in_state s).gives ≡ Ok rows → AllByRecursion (IsLooked s sees user condition rows) (rows_of s name)
unfolding rows_at
rows_with s sees user name places condition rows None pinned carry given =
    all_weaker (λ stored. has_number (rows_of s name) stored.id ≡ true) (IsLooked s sees user condition rows)
    (λ stored has met. ap (λ all. has_number all stored.id) (sym (ap rows_in given)) ∙ has) (rows_of s name) (each_there (rows_of s name))
rows_with s sees user name places condition rows (Some key) pinned carry given =
    keyed_rows s sees user name places condition rows key (list_any is_null key) pinned refl carry given

-- each row that meets the condition is among those that are looked at
pub pinned_rows : (s : State) (sees : Shows) (user name : List ℕ) (table : TableDef) (condition : Option Term) (rows : List Stored) → CarryKeys table.key (rows_of s name)
    → ((scanned_rows user name table condition).in_state s).gives ≡ Ok rows → AllByRecursion (IsLooked s sees user condition rows) (rows_of s name)
pinned_rows s sees user name table condition rows carry given = rows_with s sees user name table.key condition rows (pinned_key user table.key condition) refl carry given
