-- What is in a list, found by a test.
use Rattle.std.specs.Prelude.{◌≡◌, refl, ℕ, zero, suc, List, [], ◌∷◌, ◌<◌, ◌≤◌, Bool, true, false, ◌||◌, nat_eq, length, drop, cond, slice_get, Option, Some, None}
use Rattle.std.specs.BTreeMap.{is_at}
use Rattle.std.specs.List.{list_any, Contains}
use Rattle.std.specs.List.Sorted.{IsStrictlySortedBy}
use Rattle.std.specs.Map.{keys_of}
use Rattle.std.specs.Option.{is_some}
use Rattle.std.specs.Ordering.{nat_cmp}
use Rattle.std.proofs.Common.{ap, sym, ◌∙◌, inl, inr, arith}
use Rattle.std.proofs.lemmas.Bool.{true≢false, or_left, or_right}
use Rattle.std.proofs.lemmas.Cmp.{eq_by_cmp_equiv, nat_cmp_total}
use Rattle.std.proofs.lemmas.Map.Keys.{IsDistinct-from_sorted}
use Rattle.std.proofs.lemmas.Map.Views.{lookup-from_Contains}
use Rattle.std.proofs.lemmas.Option.{none-some}
use Rattle.rls_value.specs.declared.object.Object.{Object}
use Rattle.rls_source.specs.Footprints.{is_object, is_among}
use Rattle.rls_source.specs.FootprintLaws.{is_object_same}
use Rattle.rls_history.specs.States.{IsAmong}
use Rattle.rls_siread.specs.Locks.{is_number_in}
use Rattle.rls_siread.proofs.LocksLaws.{same_number, number_itself, number_at}
use Rattle.rls_conflict.specs.Begun.{at_number}
use Rattle.rls_conflict.proofs.WritingLemmas.{any_from_in, in_from_any}

-- tests that pass together are the same
pub same_test : (one other : Bool) → (one ≡ true → other ≡ true) → (other ≡ true → one ≡ true) → one ≡ other
same_test true true there back = refl
same_test true false there back = absurd (true≢false (sym (there refl)))
same_test false true there back = absurd (true≢false (sym (back refl)))
same_test false false there back = refl

-- ---- numbers and objects

pub number_in : (numbers : List ℕ) (number : ℕ) → IsAmong number numbers → is_number_in numbers number ≡ true
number_in numbers number i = any_from_in (nat_eq number) number numbers i (number_itself number)

-- a number that is there and passes
pub any_number : (test : ℕ → Bool) (numbers : List ℕ) (number : ℕ) → is_number_in numbers number ≡ true → test number ≡ true → list_any test numbers ≡ true
any_number test numbers number is passes =
    let found = in_from_any (nat_eq number) numbers is in
    any_from_in test found.0 numbers found.1 (ap test (sym (same_number number found.0 found.2)) ∙ passes)

pub object_in : (objects : List Object) (object : Object) → IsAmong object objects → is_among objects object ≡ true
object_in objects object i = any_from_in (is_object object) object objects i ((is_object_same object object).1 refl)

-- an object that is there and passes
pub any_object : (test : Object → Bool) (objects : List Object) (object : Object) → is_among objects object ≡ true → test object ≡ true → list_any test objects ≡ true
any_object test objects object is passes =
    let found = in_from_any (is_object object) objects is in
    any_from_in test found.0 objects found.1 (ap test (sym ((is_object_same object found.0).0 found.2)) ∙ passes)

-- ---- places

pub in_drop : {X : Type 0} (x : X) (n : ℕ) (xs : List X) → IsAmong x (drop n xs) → (place : ℕ) × (n ≤ place) × (slice_get xs place ≡ Some x)
in_drop x zero [] i = absurd i
in_drop x zero (y ∷ xs) i = elim i [
  | inl same ↦ (0, omega arith, ap Some (sym same))
  | inr more ↦ (let r = in_drop x zero xs more in (suc r.0, omega arith, r.2))
]
in_drop x (suc n) [] i = absurd i
in_drop x (suc n) (y ∷ xs) i =
    let r = in_drop x n xs i in
    let less : n ≤ r.0 = r.1 in
    (suc r.0, omega arith, r.2)

pub drop_in : {X : Type 0} (x : X) (n place : ℕ) (xs : List X) → n ≤ place → slice_get xs place ≡ Some x → IsAmong x (drop n xs)
drop_in x n place [] within is = cc
drop_in x zero zero (y ∷ xs) within is = let same : x ≡ y = cc in inl same
drop_in x zero (suc place) (y ∷ xs) within is = inr (drop_in x zero place xs (omega arith) is)
drop_in x (suc n) zero (y ∷ xs) within is = absurd (omega arith)
drop_in x (suc n) (suc place) (y ∷ xs) within is = drop_in x n place xs (omega arith) is

-- ---- entries by number

contains_from : {X : Type 0} (x : X) (xs : List X) → IsAmong x xs → Contains xs x
contains_from x [] i = absurd i
contains_from x (y ∷ xs) i = elim i [
  | inl same ↦ (0, omega arith, sym same)
  | inr more ↦ (let r = contains_from x xs more in let less : r.0 < length xs = r.1 in (suc r.0, omega arith, r.2))
]

-- an entry of a map in order is found
pub entry_found : {X : Type 0} (number : ℕ) (x : X) (entries : List (ℕ × X)) → IsStrictlySortedBy nat_cmp (keys_of entries) → IsAmong (number, x) entries → at_number number entries ≡ Some x
entry_found number x entries ordered i =
    lookup-from_Contains (eq_by_cmp_equiv nat_cmp_total) number x entries (IsDistinct-from_sorted nat_cmp (keys_of entries) ordered) (contains_from (number, x) entries i)

entry_if : {X : Type 0} (same : Bool) (number : ℕ) (x : X) (e : ℕ × X) (entries : List (ℕ × X)) → is_at (nat_cmp number) e.0 ≡ same → cond same (Some e.1) (at_number number entries) ≡ Some x
    → (at_number number entries ≡ Some x → IsAmong (number, x) entries) → IsAmong (number, x) (e ∷ entries)
entry_if true number x e entries is found further =
    let here : e.1 ≡ x = cc in
    inl (λ i. (same_number number e.0 (sym (number_at number e.0) ∙ is) i, sym here i))
entry_if false number x e entries is found further = inr (further found)

-- what is found is an entry
pub found_entry : {X : Type 0} (number : ℕ) (x : X) (entries : List (ℕ × X)) → at_number number entries ≡ Some x → IsAmong (number, x) entries
found_entry number x [] found = absurd (none-some x found)
found_entry number x (e ∷ entries) found = entry_if (is_at (nat_cmp number) e.0) number x e entries refl found (found_entry number x entries)

-- there is something
pub some_is : {X : Type 0} (it : Option X) → is_some it ≡ true → (x : X) × (it ≡ Some x)
some_is None is = absurd (true≢false (sym is))
some_is (Some x) is = (x, refl)

key_if : (same : Bool) (b c : Bool) → b ≡ same → (same ≡ false → c ≡ true) → (b || c) ≡ true
key_if true b c is further = or_left b c is
key_if false b c is further = or_right b c (further refl)

-- who runs is among the numbers of those that run
pub runs_number : {X : Type 0} (number : ℕ) (entries : List (ℕ × X)) → is_some (at_number number entries) ≡ true → is_number_in (keys_of entries) number ≡ true
runs_number number [] is = absurd (true≢false (sym is))
runs_number number (e ∷ entries) is =
    key_if (nat_eq number e.0) (nat_eq number e.0) (is_number_in (keys_of entries) number) refl
    (λ apart. runs_number number entries (sym (ap (λ same. is_some (cond same (Some e.1) (at_number number entries))) (number_at number e.0 ∙ apart)) ∙ is))
