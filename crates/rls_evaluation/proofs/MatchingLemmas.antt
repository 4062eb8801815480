-- A row that hasn't the values that WHERE sets columns equal to doesn't meet it, and leaving it out changes nothing.
use Rattle.std.specs.Prelude.{◌≡◌, refl, ℕ, zero, suc, nat_eq, List, [], ◌∷◌, Bool, true, false, ◌&&◌, Option, Some, None, Result, Ok, Err, cond, filter, if◌then◌else◌}
use Rattle.std.proofs.Common.{arith, ap, sym, ◌∙◌, append-nil}
use Rattle.std.proofs.lemmas.Bool.{and_parts, true≢false}
use Rattle.std.specs.{BTreeMap.is_at, List.list_any, Cmp.Lexicographic.slice_cmp}
use Rattle.std.specs.Ordering.{is_eq, ordering_then}
use Rattle.std.specs.declared.cmp.Ordering.{Ordering}
use Rattle.std.specs.declared.cmp.Ordering.TheVariants.{Less, Equal, Greater}
use Rattle.rls_value.specs.{declared.refusal.Refusal.Refusal, declared.object.Object.Object, declared.value.Value.Value, declared.truth.Truth.Truth, Values.equal_values, Values.is_null, Values.listed, Values.truth_in, Values.value_at, Values.value_of_truth, Truths.conjunction_of, Truths.is_true}
use Rattle.rls_value.specs.declared.value.Value.TheVariants.{Null, Int, Text, Bool as Flag}
use Rattle.rls_value.specs.declared.truth.Truth.TheVariants.{True, False, Unknown}
use Rattle.rls_source.specs.rls_catalog.specs.rls_expr.specs.declared.expr.Comparison.TheVariants as c
use Rattle.rls_source.specs.rls_catalog.specs.rls_expr.specs.Parts.{has_query, have_query}
use Rattle.rls_source.specs.rls_catalog.specs.rls_expr.specs.Terms.{Term, Terms, Literal, Column, Var, CurrentUser, Compare, And, Or, Not, IsNull, IsNotNull, InList, NotInList, Exists, InSubquery, NotInSubquery, Scalar, Sum, End, More}
use Rattle.rls_verdict.specs.rls_catalog.specs.State.{State}
use Rattle.rls_source.specs.{Readings.unread, Readings.read_then, Askings.Asking}
use Rattle.rls_evaluation.specs.{Environments.Environment, Environments.inside, Environments.row_at, Environments.compared, Gathering.gathered, Plain.IsPlainly}
use Rattle.rls_evaluation.specs.Eval.{and_value}
use Rattle.rls_evaluation.specs.Keys.{known_value, outer_value, is_column, pin_by, or_else, pin_in, pin_among, pin_of, with_pin, pinned}
use Rattle.rls_evaluation.specs.Matching.{IsUnmet, has_values, values_in}
use Rattle.rls_evaluation.proofs.{UnreadLemmas.AreTogether, UnreadLemmas.neither_left, UnreadLemmas.neither_right, UnreadLemmas.plain, UnreadLemmas.plain_all, ValueSetLemmas.number_ties, ValueSetLemmas.text_ties, ValueSetLemmas.flag_ties, ValueSetLemmas.ties_back}

-- ---- rows that are left out

then_end_if : {A : Type 0} (gives : Result A Refusal) (reads : List Object) → read_then (record { gives = gives; reads = reads }) (λ a. unread (Ok a)) ≡ record { gives = gives; reads = reads }
then_end_if (Ok a) reads = ap (λ more. record { gives = Ok a; reads = more }) (append-nil reads)
then_end_if (Err refusal) reads = ap (λ more. record { gives = Err refusal; reads = more }) (append-nil reads)

left_if : {B R : Type 0} (b : Bool) (put : List Value → B → R → R) (none : R) (ask : List Value → Asking B) (out : B) (row : List Value) (rows fewer : List (List Value)) (s : State)
    → (b ≡ false → (ask row).in_state s ≡ unread (Ok out)) → ((row : List Value) (rest : R) → put row out rest ≡ rest)
    → (gathered put none ask rows).in_state s ≡ (gathered put none ask fewer).in_state s
    → (gathered put none ask (row ∷ rows)).in_state s ≡ (gathered put none ask (cond b (row ∷ fewer) fewer)).in_state s
left_if true put none ask out row rows fewer s outside passes further =
    λ i. read_then ((ask row).in_state s) (λ y. read_then (further i) (λ rest. unread (Ok (put row y rest))))
left_if false put none ask out row rows fewer s outside passes further =
    ap (λ r. read_then r (λ y. read_then ((gathered put none ask rows).in_state s) (λ rest. unread (Ok (put row y rest))))) (outside refl)
    ∙ (λ i. read_then ((gathered put none ask rows).in_state s) (λ rest. unread (Ok (passes row rest i))))
    ∙ then_end_if ((gathered put none ask rows).in_state s).gives ((gathered put none ask rows).in_state s).reads
    ∙ further

-- each that is left out tells the same, which counts for nothing
pub gathered_left : {B R : Type 0} (put : List Value → B → R → R) (none : R) (ask : List Value → Asking B) (out : B) (test : List Value → Bool) (rows : List (List Value)) (s : State)
    → ((row : List Value) → test row ≡ false → (ask row).in_state s ≡ unread (Ok out)) → ((row : List Value) (rest : R) → put row out rest ≡ rest)
    → (gathered put none ask rows).in_state s ≡ (gathered put none ask (filter test rows)).in_state s
gathered_left put none ask out test [] s outside passes = refl
gathered_left put none ask out test (row ∷ rows) s outside passes =
    left_if (test row) put none ask out row rows (filter test rows) s (outside row) passes (gathered_left put none ask out test rows s outside passes)

-- nothing is left out
pub all_pass : (rows : List (List Value)) → filter (λ _. true) rows ≡ rows
all_pass [] = refl
all_pass (row ∷ rows) = ap (λ rest. row ∷ rest) (all_pass rows)

-- all are left out
pub none_pass : (rows : List (List Value)) → filter (λ _. false) rows ≡ []
none_pass [] = refl
none_pass (row ∷ rows) = none_pass rows

-- ---- equality either way

true_back : (v x : Value) → is_true (equal_values v x) ≡ is_true (equal_values x v)
true_back (Int a) (Int b) = number_ties a (Int b) ∙ ties_back (Int a) (Int b) ∙ sym (number_ties b (Int a))
true_back (Text a) (Text b) = text_ties a (Text b) ∙ ties_back (Text a) (Text b) ∙ sym (text_ties b (Text a))
true_back (Flag a) (Flag b) = flag_ties a (Flag b) ∙ ties_back (Flag a) (Flag b) ∙ sym (flag_ties b (Flag a))
true_back (Int a) Null = refl
true_back (Int a) (Text b) = refl
true_back (Int a) (Flag b) = refl
true_back (Text a) Null = refl
true_back (Text a) (Int b) = refl
true_back (Text a) (Flag b) = refl
true_back (Flag a) Null = refl
true_back (Flag a) (Int b) = refl
true_back (Flag a) (Text b) = refl
true_back Null Null = refl
true_back Null (Int b) = refl
true_back Null (Text b) = refl
true_back Null (Flag b) = refl

truth_back : (truth : Truth) → truth_in (value_of_truth truth) ≡ truth
truth_back True = refl
truth_back False = refl
truth_back Unknown = refl

not_left : (a b : Truth) → is_true a ≡ false → is_true (conjunction_of a b) ≡ false
not_left True b is = absurd (true≢false is)
not_left False b is = refl
not_left Unknown True is = refl
not_left Unknown False is = refl
not_left Unknown Unknown is = refl

not_right : (a b : Truth) → is_true b ≡ false → is_true (conjunction_of a b) ≡ false
not_right a True is = absurd (true≢false is)
not_right True False is = refl
not_right False False is = refl
not_right Unknown False is = refl
not_right True Unknown is = refl
not_right False Unknown is = refl
not_right Unknown Unknown is = refl

-- ---- what is known before a row is looked at

abbrev some_or : Value → Option Value → Value
some_or d (Some v) = v
some_or d None = d

abbrev is_there : Option Value → Bool
is_there (Some v) = true
is_there None = false

none_is : (v : Value) → None ≡ Some v → ⊥
none_is v is = true≢false (sym (ap is_there is))

known_var : (level column : ℕ) (env : Environment) (row : List Value) (v : Value) → outer_value level column env ≡ Some v → value_at (row_at (inside row env).rows level) column ≡ v
known_var zero column env row v is = absurd (none_is v is)
known_var (suc level) column env row v is = ap (some_or v) is

-- it is the same with a row more in scope
known_plain : (t : Term) (env : Environment) (row : List Value) (v : Value) → known_value t env ≡ Some v → IsPlainly t (inside row env) v
known_plain (Literal w) env row v is = λ sees s. ap (λ o. unread (Ok (some_or v o))) is
known_plain (Var at) env row v is = λ sees s. ap (λ x. unread (Ok x)) (known_var at.level at.column env row v is)
known_plain CurrentUser env row v is = λ sees s. ap (λ o. unread (Ok (some_or v o))) is
known_plain (Column name) env row v is = absurd (none_is v is)
known_plain (Compare how a b) env row v is = absurd (none_is v is)
known_plain (And ts) env row v is = absurd (none_is v is)
known_plain (Or ts) env row v is = absurd (none_is v is)
known_plain (Not t) env row v is = absurd (none_is v is)
known_plain (IsNull t) env row v is = absurd (none_is v is)
known_plain (IsNotNull t) env row v is = absurd (none_is v is)
known_plain (InList t ts) env row v is = absurd (none_is v is)
known_plain (NotInList t ts) env row v is = absurd (none_is v is)
known_plain (Exists q) env row v is = absurd (none_is v is)
known_plain (InSubquery t q) env row v is = absurd (none_is v is)
known_plain (NotInSubquery t q) env row v is = absurd (none_is v is)
known_plain (Scalar q) env row v is = absurd (none_is v is)
known_plain (Sum signs ts) env row v is = absurd (none_is v is)

same_number : (a b : ℕ) → nat_eq a b ≡ true → a ≡ b
same_number a b is = grind (arith, is)

-- an own column
own_plain : (t : Term) (column : ℕ) (env : Environment) (row : List Value) → is_column column t ≡ true → IsPlainly t (inside row env) (value_at row column)
own_plain (Var at) column env row is =
    let parts = and_parts (nat_eq at.level 0) (nat_eq at.column column) is in
    let level : at.level ≡ 0 = same_number at.level 0 parts.0 in
    let place : at.column ≡ column = same_number at.column column parts.1 in
    λ sees s i. unread (Ok (value_at (row_at (row ∷ env.rows) (level i)) (place i)))
own_plain (Literal w) column env row is = absurd (true≢false (sym is))
own_plain CurrentUser column env row is = absurd (true≢false (sym is))
own_plain (Column name) column env row is = absurd (true≢false (sym is))
own_plain (Compare how a b) column env row is = absurd (true≢false (sym is))
own_plain (And ts) column env row is = absurd (true≢false (sym is))
own_plain (Or ts) column env row is = absurd (true≢false (sym is))
own_plain (Not t) column env row is = absurd (true≢false (sym is))
own_plain (IsNull t) column env row is = absurd (true≢false (sym is))
own_plain (IsNotNull t) column env row is = absurd (true≢false (sym is))
own_plain (InList t ts) column env row is = absurd (true≢false (sym is))
own_plain (NotInList t ts) column env row is = absurd (true≢false (sym is))
own_plain (Exists q) column env row is = absurd (true≢false (sym is))
own_plain (InSubquery t q) column env row is = absurd (true≢false (sym is))
own_plain (NotInSubquery t q) column env row is = absurd (true≢false (sym is))
own_plain (Scalar q) column env row is = absurd (true≢false (sym is))
own_plain (Sum signs ts) column env row is = absurd (true≢false (sym is))

-- ---- a part that sets a column equal to another value than the row has

-- the term has a value that isn't true
record IsUntrue (t : Term) (env : Environment) : Type 0 where
  value : Value
  plainly : IsPlainly t env value
  untrue : is_true (truth_in value) ≡ false

-- both sides are known
equality_plain : (a b : Term) (env : Environment) (x y : Value) → IsPlainly a env x → IsPlainly b env y → IsPlainly (Compare c.Equal a b) env (value_of_truth (equal_values x y))
equality_plain a b env x y left right = λ sees s i. read_then (left sees s i) (λ v. read_then (right sees s i) (λ w. unread (Ok (value_of_truth (compared c.Equal v w)))))

equality_untrue : (a b : Term) (env : Environment) (x y : Value) → IsPlainly a env x → IsPlainly b env y → is_true (equal_values x y) ≡ false → IsUntrue (Compare c.Equal a b) env
equality_untrue a b env x y left right is = record {
  value = value_of_truth (equal_values x y);
  plainly = equality_plain a b env x y left right;
  untrue = ap is_true (truth_back (equal_values x y)) ∙ is;
}

by_if : (b : Bool) (known : Option Value) (v : Value) (P : Type 0) → (if b then known else None) ≡ Some v → (b ≡ true → known ≡ Some v → P) → P
by_if true known v P is next = next refl is
by_if false known v P is next = absurd (none_is v is)

else_if : (one other : Option Value) (v : Value) (P : Type 0) → or_else one other ≡ Some v → (one ≡ Some v → P) → (other ≡ Some v → P) → P
else_if (Some w) other v P is left right = left is
else_if None other v P is left right = right is

part_untrue : (column : ℕ) (t : Term) (env : Environment) (row : List Value) (v : Value) → pin_in column t env ≡ Some v → is_true (equal_values v (value_at row column)) ≡ false → IsUntrue t (inside row env)
part_untrue column (Compare c.Equal a b) env row v is un =
    else_if (pin_by column a b env) (pin_by column b a env) v (IsUntrue (Compare c.Equal a b) (inside row env)) is
    (λ left. by_if (is_column column a) (known_value b env) v (IsUntrue (Compare c.Equal a b) (inside row env)) left
    (λ own known. equality_untrue a b (inside row env) (value_at row column) v (own_plain a column env row own) (known_plain b env row v known) (true_back (value_at row column) v ∙ un)))
    (λ right. by_if (is_column column b) (known_value a env) v (IsUntrue (Compare c.Equal a b) (inside row env)) right
    (λ own known. equality_untrue a b (inside row env) v (value_at row column) (known_plain a env row v known) (own_plain b column env row own) un))
part_untrue column (Compare c.NotEqual a b) env row v is un = absurd (none_is v is)
part_untrue column (Compare c.Less a b) env row v is un = absurd (none_is v is)
part_untrue column (Compare c.LessOrEqual a b) env row v is un = absurd (none_is v is)
part_untrue column (Compare c.Greater a b) env row v is un = absurd (none_is v is)
part_untrue column (Compare c.GreaterOrEqual a b) env row v is un = absurd (none_is v is)
part_untrue column (Literal w) env row v is un = absurd (none_is v is)
part_untrue column (Var at) env row v is un = absurd (none_is v is)
part_untrue column CurrentUser env row v is un = absurd (none_is v is)
part_untrue column (Column name) env row v is un = absurd (none_is v is)
part_untrue column (And ts) env row v is un = absurd (none_is v is)
part_untrue column (Or ts) env row v is un = absurd (none_is v is)
part_untrue column (Not t) env row v is un = absurd (none_is v is)
part_untrue column (IsNull t) env row v is un = absurd (none_is v is)
part_untrue column (IsNotNull t) env row v is un = absurd (none_is v is)
part_untrue column (InList t ts) env row v is un = absurd (none_is v is)
part_untrue column (NotInList t ts) env row v is un = absurd (none_is v is)
part_untrue column (Exists q) env row v is un = absurd (none_is v is)
part_untrue column (InSubquery t q) env row v is un = absurd (none_is v is)
part_untrue column (NotInSubquery t q) env row v is un = absurd (none_is v is)
part_untrue column (Scalar q) env row v is un = absurd (none_is v is)
part_untrue column (Sum signs ts) env row v is un = absurd (none_is v is)

-- ---- AND, one of whose parts isn't true

record AreUntrue (ts : Terms) (env : Environment) : Type 0 where
  truth : Truth
  together : AreTogether and_value True ts env truth
  untrue : is_true truth ≡ false

one_untrue : (t : Term) (ts : Terms) (env : Environment) → have_query ts ≡ false → IsUntrue t env → AreUntrue (More t ts) env
one_untrue t ts env is part =
    let rest = plain_all and_value True ts env is in
    record {
      truth = and_value part.value rest.0;
      together = λ sees s i. read_then (part.plainly sees s i) (λ v. read_then (rest.1 sees s i) (λ truth. unread (Ok (and_value v truth))));
      untrue = not_left (truth_in part.value) rest.0 part.untrue;
    }

further_untrue : (t : Term) (ts : Terms) (env : Environment) → has_query t ≡ false → AreUntrue ts env → AreUntrue (More t ts) env
further_untrue t ts env is parts =
    let part = plain t env is in
    record {
      truth = and_value part.0 parts.truth;
      together = λ sees s i. read_then (part.1 sees s i) (λ v. read_then (parts.together sees s i) (λ truth. unread (Ok (and_value v truth))));
      untrue = not_right (truth_in part.0) parts.truth parts.untrue;
    }

among_untrue : (column : ℕ) (ts : Terms) (env : Environment) (row : List Value) (v : Value) → pin_among column ts env ≡ Some v → is_true (equal_values v (value_at row column)) ≡ false → have_query ts ≡ false
    → AreUntrue ts (inside row env)
among_untrue column End env row v is un none = absurd (none_is v is)
among_untrue column (More t ts) env row v is un none =
    else_if (pin_in column t env) (pin_among column ts env) v (AreUntrue (More t ts) (inside row env)) is
    (λ here. one_untrue t ts (inside row env) (neither_right (has_query t) (have_query ts) none) (part_untrue column t env row v here un))
    (λ behind. further_untrue t ts (inside row env) (neither_left (has_query t) (have_query ts) none) (among_untrue column ts env row v behind un (neither_right (has_query t) (have_query ts) none)))

and_untrue : (ts : Terms) (env : Environment) → AreUntrue ts env → IsUntrue (And ts) env
and_untrue ts env parts = record {
  value = value_of_truth parts.truth;
  plainly = λ sees s i. read_then (parts.together sees s i) (λ truth. unread (Ok (value_of_truth truth)));
  untrue = ap is_true (truth_back parts.truth) ∙ parts.untrue;
}

pin_untrue : (column : ℕ) (t : Term) (env : Environment) (row : List Value) (v : Value) → pin_of column t env ≡ Some v → is_true (equal_values v (value_at row column)) ≡ false → has_query t ≡ false → IsUntrue t (inside row env)
pin_untrue column (And ts) env row v is un none = and_untrue ts (inside row env) (among_untrue column ts env row v is un none)
pin_untrue column (Compare how a b) env row v is un none = part_untrue column (Compare how a b) env row v is un
pin_untrue column (Literal w) env row v is un none = absurd (none_is v is)
pin_untrue column (Var at) env row v is un none = absurd (none_is v is)
pin_untrue column CurrentUser env row v is un none = absurd (none_is v is)
pin_untrue column (Column name) env row v is un none = absurd (none_is v is)
pin_untrue column (Or ts) env row v is un none = absurd (none_is v is)
pin_untrue column (Not t) env row v is un none = absurd (none_is v is)
pin_untrue column (IsNull t) env row v is un none = absurd (none_is v is)
pin_untrue column (IsNotNull t) env row v is un none = absurd (none_is v is)
pin_untrue column (InList t ts) env row v is un none = absurd (none_is v is)
pin_untrue column (NotInList t ts) env row v is un none = absurd (none_is v is)
pin_untrue column (Exists q) env row v is un none = absurd (none_is v is)
pin_untrue column (InSubquery t q) env row v is un none = absurd (none_is v is)
pin_untrue column (NotInSubquery t q) env row v is un none = absurd (none_is v is)
pin_untrue column (Scalar q) env row v is un none = absurd (none_is v is)
pin_untrue column (Sum signs ts) env row v is un none = absurd (none_is v is)

-- ---- a row that hasn't the values

abbrev values_or : List Value → Option (List Value) → List Value
values_or d (Some values) = values
values_or d None = d

abbrev are_there : Option (List Value) → Bool
are_there (Some values) = true
are_there None = false

nothing_is : (values : List Value) → None ≡ Some values → ⊥
nothing_is values is = true≢false (sym (ap are_there is))

and_off : (a b : Bool) (P : Type 0) → (a && b) ≡ false → (a ≡ false → P) → (b ≡ false → P) → P
and_off true b P is left right = right is
and_off false b P is left right = left refl

pin_if : (one : Option Value) (rest : Option (List Value)) (column : ℕ) (columns : List ℕ) (values : List Value) (t : Term) (env : Environment) (row : List Value) → pin_of column t env ≡ one
    → ((further : List Value) → rest ≡ Some further → has_values columns further row ≡ false → IsUntrue t (inside row env)) → with_pin one rest ≡ Some values → has_values (column ∷ columns) values row ≡ false → has_query t ≡ false
    → IsUntrue t (inside row env)
pin_if (Some v) (Some further) column columns values t env row pin others is un none =
    and_off (is_true (equal_values v (value_at row column))) (has_values columns further row) (IsUntrue t (inside row env))
    (ap (λ vs. has_values (column ∷ columns) vs row) (ap (values_or values) is) ∙ un)
    (λ here. pin_untrue column t env row v pin here none) (λ there. others further refl there)
pin_if (Some v) None column columns values t env row pin others is un none = absurd (nothing_is values is)
pin_if None (Some further) column columns values t env row pin others is un none = absurd (nothing_is values is)
pin_if None None column columns values t env row pin others is un none = absurd (nothing_is values is)

pinned_untrue : (columns : List ℕ) (values : List Value) (t : Term) (env : Environment) (row : List Value) → pinned columns t env ≡ Some values → has_values columns values row ≡ false → has_query t ≡ false → IsUntrue t (inside row env)
pinned_untrue [] values t env row is un none = absurd (true≢false (ap (λ vs. has_values [] vs row) (ap (values_or values) is) ∙ un))
pinned_untrue (column ∷ columns) values t env row is un none =
    pin_if (pin_of column t env) (pinned columns t env) column columns values t env row refl (λ further there off. pinned_untrue columns further t env row there off none) is un none

-- it doesn't meet WHERE
pub unmet : (columns : List ℕ) (values : List Value) (t : Term) (env : Environment) (row : List Value) → pinned columns t env ≡ Some values → has_query t ≡ false → has_values columns values row ≡ false → IsUnmet (More t End) env row
unmet columns values t env row is none un =
    let told = pinned_untrue columns values t env row is un none in
    λ sees s. ap (λ r. read_then r (λ v. unread (Ok (is_true (truth_in v))))) (told.plainly sees s) ∙ ap (λ b. unread (Ok b)) told.untrue

off_right : (a b : Bool) → b ≡ false → (a && b) ≡ false
off_right true b is = is
off_right false b is = refl

-- nothing is equal to a null
pub null_has_none : (columns : List ℕ) (values row : List Value) → list_any is_null values ≡ true → has_values columns values row ≡ false
null_has_none columns [] row is = absurd (true≢false (sym is))
null_has_none [] (v ∷ values) row is = refl
null_has_none (column ∷ columns) (Null ∷ values) row is = refl
null_has_none (column ∷ columns) (Int a ∷ values) row is = off_right (is_true (equal_values (Int a) (value_at row column))) (has_values columns values row) (null_has_none columns values row is)
null_has_none (column ∷ columns) (Text a ∷ values) row is = off_right (is_true (equal_values (Text a) (value_at row column))) (has_values columns values row) (null_has_none columns values row is)
null_has_none (column ∷ columns) (Flag a ∷ values) row is = off_right (is_true (equal_values (Flag a) (value_at row column))) (has_values columns values row) (null_has_none columns values row is)

-- ---- the values as a key

chain : (o rest : Ordering) → is_eq (ordering_then o rest) ≡ (is_eq o && is_eq rest)
chain Less rest = refl
chain Equal rest = refl
chain Greater rest = refl

key_if : (v x : Value) (b rest : Bool) → is_true (equal_values v x) ≡ is_at (listed v) x → b ≡ rest → (is_eq (listed v x) && b) ≡ (is_true (equal_values v x) && rest)
key_if v x b rest ties same = λ i. sym ties i && same i

-- a row has the values where they are its key
pub key_matches : (columns : List ℕ) (values row : List Value) → list_any is_null values ≡ false → is_at (slice_cmp listed values) (values_in columns row) ≡ has_values columns values row
key_matches [] [] row is = refl
key_matches [] (v ∷ values) row is = refl
key_matches (column ∷ columns) [] row is = refl
key_matches (column ∷ columns) (Null ∷ values) row is = absurd (true≢false is)
key_matches (column ∷ columns) (Int a ∷ values) row is =
    chain (listed (Int a) (value_at row column)) (slice_cmp listed values (values_in columns row))
    ∙ key_if (Int a) (value_at row column) (is_at (slice_cmp listed values) (values_in columns row)) (has_values columns values row) (number_ties a (value_at row column)) (key_matches columns values row is)
key_matches (column ∷ columns) (Text a ∷ values) row is =
    chain (listed (Text a) (value_at row column)) (slice_cmp listed values (values_in columns row))
    ∙ key_if (Text a) (value_at row column) (is_at (slice_cmp listed values) (values_in columns row)) (has_values columns values row) (text_ties a (value_at row column)) (key_matches columns values row is)
key_matches (column ∷ columns) (Flag a ∷ values) row is =
    chain (listed (Flag a) (value_at row column)) (slice_cmp listed values (values_in columns row))
    ∙ key_if (Flag a) (value_at row column) (is_at (slice_cmp listed values) (values_in columns row)) (has_values columns values row) (flag_ties a (value_at row column)) (key_matches columns values row is)
