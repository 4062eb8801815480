-- A set answers what the list of its values does.
use Rattle.std.specs.Prelude.{◌≡◌, refl, List, [], ◌∷◌, ◌++◌, Bool, true, false, not, cond, ◌||◌, ◌&&◌}
use Rattle.std.proofs.Common.{ap, sym, ◌∙◌}
use Rattle.std.specs.BTreeMap.{is_at}
use Rattle.std.specs.List.{list_any}
use Rattle.std.specs.Ordering.{is_eq, int_cmp, ordering_reverse}
use Rattle.std.specs.declared.cmp.Ordering.{Ordering}
use Rattle.std.specs.declared.cmp.Ordering.TheVariants.{Less, Equal, Greater}
use Rattle.std.specs.Str.{bytes_eq}
use Rattle.std.proofs.lemmas.List.Folds.{list_any-append}
use Rattle.std.proofs.lemmas.Map.Text.{is_eq-slice_cmp}
use Rattle.rls_value.specs.{declared.value.Value.Value, declared.truth.Truth.Truth, Listing.listed_total, declared.truth.Truth.TheVariants.True, declared.truth.Truth.TheVariants.False, declared.truth.Truth.TheVariants.Unknown, Truths.disjunction_of, Truths.is_true, Truths.truth_of, Values.equal_values, Values.listed, Values.same_flag, declared.value.Value.TheVariants.Null, declared.value.Value.TheVariants.Int, declared.value.Value.TheVariants.Text, declared.value.Value.TheVariants.Bool as Flag}
use Rattle.rls_evaluation.specs.{declared.value_set.ValueSet.ValueSet, Items.any_equal, Items.is_some, ValueSets.IsSetOf, ValueSets.finds, ValueSets.lets_open, ValueSets.is_number, ValueSets.is_text, ValueSets.is_flag, ValueSets.three}

-- ---- any_equal by two tests

-- it isn't known
abbrev is_open : Truth → Bool
is_open True = false
is_open False = false
is_open Unknown = true

or_three : (t : Truth) (b o : Bool) → disjunction_of t (three b o) ≡ three (is_true t || b) (is_open t || o)
or_three True b o = refl
or_three False true o = refl
or_three False false true = refl
or_three False false false = refl
or_three Unknown true o = refl
or_three Unknown false true = refl
or_three Unknown false false = refl

any_three : (x : Value) (items : List Value) → any_equal x items ≡ three (list_any (λ v. is_true (equal_values x v)) items) (list_any (λ v. is_open (equal_values x v)) items)
any_three x [] = refl
any_three x (v ∷ items) =
    ap (disjunction_of (equal_values x v)) (any_three x items)
    ∙ or_three (equal_values x v) (list_any (λ v. is_true (equal_values x v)) items) (list_any (λ v. is_open (equal_values x v)) items)

any_as : (f g : Value → Bool) (items : List Value) → ((v : Value) → f v ≡ g v) → list_any f items ≡ list_any g items
any_as f g [] same = refl
any_as f g (v ∷ items) same = (λ i. same v i || any_as f g items same i)

true_of : (b : Bool) → is_true (truth_of b) ≡ b
true_of true = refl
true_of false = refl

never_open : (b : Bool) → is_open (truth_of b) ≡ false
never_open true = refl
never_open false = refl

-- ---- a value that isn't null: equal where it ties, open where the types differ

flags_tie : (a b : Bool) → is_true (truth_of (same_flag a b)) ≡ is_at (listed (Flag a)) (Flag b)
flags_tie true true = refl
flags_tie true false = refl
flags_tie false true = refl
flags_tie false false = refl

pub number_ties : (a : _) (v : Value) → is_true (equal_values (Int a) v) ≡ is_at (listed (Int a)) v
number_ties a (Int b) = true_of (is_eq (int_cmp a b))
number_ties a (Text t) = refl
number_ties a (Flag b) = refl
number_ties a Null = refl

pub text_ties : (a : _) (v : Value) → is_true (equal_values (Text a) v) ≡ is_at (listed (Text a)) v
text_ties a (Int b) = refl
text_ties a (Text b) = true_of (bytes_eq a b) ∙ sym (is_eq-slice_cmp a b)
text_ties a (Flag b) = refl
text_ties a Null = refl

pub flag_ties : (a : Bool) (v : Value) → is_true (equal_values (Flag a) v) ≡ is_at (listed (Flag a)) v
flag_ties a (Int b) = refl
flag_ties a (Text b) = refl
flag_ties a (Flag b) = flags_tie a b
flag_ties a Null = refl

number_open : (a : _) (v : Value) → is_open (equal_values (Int a) v) ≡ not (is_number v)
number_open a (Int b) = never_open (is_eq (int_cmp a b))
number_open a (Text t) = refl
number_open a (Flag b) = refl
number_open a Null = refl

text_open : (a : _) (v : Value) → is_open (equal_values (Text a) v) ≡ not (is_text v)
text_open a (Int b) = refl
text_open a (Text b) = never_open (bytes_eq a b)
text_open a (Flag b) = refl
text_open a Null = refl

flag_open : (a : Bool) (v : Value) → is_open (equal_values (Flag a) v) ≡ not (is_flag v)
flag_open a (Int b) = refl
flag_open a (Text b) = refl
flag_open a (Flag b) = never_open (same_flag a b)
flag_open a Null = refl

none_true : (items : List Value) → list_any (λ v. is_true (equal_values Null v)) items ≡ false
none_true [] = refl
none_true (v ∷ items) = none_true items

all_open : (items : List Value) → list_any (λ v. is_open (equal_values Null v)) items ≡ is_some items
all_open [] = refl
all_open (v ∷ items) = refl

by_tests : (x : Value) (ties unsure : Value → Bool) (items : List Value) → ((v : Value) → is_true (equal_values x v) ≡ ties v) → ((v : Value) → is_open (equal_values x v) ≡ unsure v)
    → any_equal x items ≡ three (list_any ties items) (list_any unsure items)
by_tests x ties unsure items equal unknown =
    any_three x items ∙ (λ i. three (any_as (λ v. is_true (equal_values x v)) ties items equal i) (any_as (λ v. is_open (equal_values x v)) unsure items unknown i))

pub and_not_null : (b : Bool) → (b && true) ≡ b
and_not_null true = refl
and_not_null false = refl

pub and_null : (b : Bool) → (b && false) ≡ false
and_null true = refl
and_null false = refl

-- what the set tells of a value
pub set_truth : (set : ValueSet) (items : List Value) (value : Value) → IsSetOf set items
    → any_equal value items ≡ three (finds set value) (lets_open set value)
set_truth set items Null is =
    any_three Null items ∙ (λ i. three (none_true items i) (all_open items i))
    ∙ (λ i. three (sym (and_null (list_any (is_at (listed Null)) set.values.keys)) i) (sym is.some i))
set_truth set items (Int a) is =
    by_tests (Int a) (is_at (listed (Int a))) (λ v. not (is_number v)) items (number_ties a) (number_open a)
    ∙ (λ i. three ((sym (is.members (Int a)) ∙ sym (and_not_null (list_any (is_at (listed (Int a))) set.values.keys))) i) (sym is.numbers i))
set_truth set items (Text a) is =
    by_tests (Text a) (is_at (listed (Text a))) (λ v. not (is_text v)) items (text_ties a) (text_open a)
    ∙ (λ i. three ((sym (is.members (Text a)) ∙ sym (and_not_null (list_any (is_at (listed (Text a))) set.values.keys))) i) (sym is.texts i))
set_truth set items (Flag a) is =
    by_tests (Flag a) (is_at (listed (Flag a))) (λ v. not (is_flag v)) items (flag_ties a) (flag_open a)
    ∙ (λ i. three ((sym (is.members (Flag a)) ∙ sym (and_not_null (list_any (is_at (listed (Flag a))) set.values.keys))) i) (sym is.flags i))

-- ---- one value more

eq_back : (o : Ordering) → is_eq (ordering_reverse o) ≡ is_eq o
eq_back Less = refl
eq_back Equal = refl
eq_back Greater = refl

pub ties_back : (a b : Value) → is_at (listed a) b ≡ is_at (listed b) a
ties_back a b = ap is_eq (listed_total.antisymm a b) ∙ eq_back (listed b a)

or_last : (b c : Bool) → cond c true b ≡ (b || (c || false))
or_last true true = refl
or_last true false = refl
or_last false true = refl
or_last false false = refl

or_end : (b c : Bool) → (b || (c || false)) ≡ (b || c)
or_end true c = refl
or_end false true = refl
or_end false false = refl

more_some : (items : List Value) (v : Value) → is_some (items ++ v ∷ []) ≡ true
more_some [] v = refl
more_some (x ∷ items) v = refl

flag_more : (test : Value → Bool) (old new : Bool) (items : List Value) (value : Value) → new ≡ (old || test value) → old ≡ list_any test items → new ≡ list_any test (items ++ value ∷ [])
flag_more test old new items value now was =
    now ∙ ap (λ b. b || test value) was ∙ sym (or_end (list_any test items) (test value)) ∙ sym (list_any-append test items (value ∷ []))

pub set_more : (old new : ValueSet) (value : Value) → ((v : Value) → list_any (is_at (listed v)) new.values.keys ≡ cond (is_at (listed value) v) true (list_any (is_at (listed v)) old.values.keys))
    → new.is_some ≡ true → new.not_numbers ≡ (old.not_numbers || not (is_number value)) → new.not_texts ≡ (old.not_texts || not (is_text value)) → new.not_flags ≡ (old.not_flags || not (is_flag value))
    → (items : List Value) → IsSetOf old items → IsSetOf new (items ++ value ∷ [])
set_more old new value members some numbers texts flags items is = record {
  members = λ v. members v ∙ ap (λ b. cond (is_at (listed value) v) true b) (is.members v)
      ∙ or_last (list_any (is_at (listed v)) items) (is_at (listed value) v)
      ∙ ap (λ c. list_any (is_at (listed v)) items || (c || false)) (ties_back value v)
      ∙ sym (list_any-append (is_at (listed v)) items (value ∷ []));
  some = some ∙ sym (more_some items value);
  numbers = flag_more (λ v. not (is_number v)) old.not_numbers new.not_numbers items value numbers is.numbers;
  texts = flag_more (λ v. not (is_text v)) old.not_texts new.not_texts items value texts is.texts;
  flags = flag_more (λ v. not (is_flag v)) old.not_flags new.not_flags items value flags is.flags;
}
