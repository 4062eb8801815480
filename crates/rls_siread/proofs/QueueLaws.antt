-- Numbers that differ, of which those before a place are gone.
use Rattle.std.specs.Prelude.{◌≡◌, ◌<◌, ◌≤◌, ◌+◌, refl, ℕ, zero, suc, List, [], ◌∷◌, ◌++◌, Bool, true, false, not, ◌||◌, nat_eq, nat_le, if◌then◌else◌, Some, get_or, length, drop, insert, remove, position, slice_get}
use Rattle.std.specs.List.{IsDistinct}
use Rattle.std.specs.Option.{option_map_or}
use Rattle.indexmap.specs.IndexMap.{move_index}
use Rattle.indexmap.specs.IndexSet.{insert_key}
use Rattle.std.proofs.Common.{ap, sym, ◌∙◌, inl, inr, arith}
use Rattle.std.proofs.lemmas.Bool.{true≢false, or_left, or_right, cases_lt, lt-leb, le-leb}
use Rattle.std.proofs.lemmas.List.{drop-append-le, drop_all, length-drop}
use Rattle.std.proofs.lemmas.List.Edits.{length-insert, length-remove}
use Rattle.std.proofs.lemmas.List.Quantifiers.{position-Some}
use Rattle.std.proofs.lemmas.Option.{slice_get-get_or}
use Rattle.rls_siread.specs.Locks.{is_number_in, arrived, without}
use Rattle.rls_siread.proofs.LocksLaws.{same_number, number_itself, apart_none, without_absent}

same_some : {X : Type 0} (x y : X) → Some x ≡ Some y → x ≡ y
same_some x y is = cc

-- ---- what differs

-- what is left of numbers that differ differs
pub still_distinct : (gone : ℕ) (xs : List ℕ) → IsDistinct nat_eq xs → IsDistinct nat_eq (drop gone xs)
unfolding IsDistinct
still_distinct zero xs distinct = distinct
still_distinct (suc gone) [] distinct = distinct
still_distinct (suc gone) (x ∷ xs) distinct = still_distinct gone xs distinct.1

none_before : (b c : Bool) → (b || c) ≡ false → c ≡ false
none_before true c is = absurd (true≢false is)
none_before false c is = is

-- who isn't there isn't among those that are left
pub still_absent : (gone : ℕ) (xs : List ℕ) (x : ℕ) → is_number_in xs x ≡ false → is_number_in (drop gone xs) x ≡ false
still_absent zero xs x none = none
still_absent (suc gone) [] x none = none
still_absent (suc gone) (y ∷ xs) x none = still_absent gone xs x (none_before (nat_eq x y) (is_number_in xs x) none)

-- who is there is met at some place
pub met_at : (xs : List ℕ) (i : ℕ) (x : ℕ) → slice_get xs i ≡ Some x → is_number_in xs x ≡ true
met_at [] i x is = cc
met_at (y ∷ xs) zero x is = ap (λ n. nat_eq x n || is_number_in xs x) (same_some y x is) ∙ or_left (nat_eq x x) (is_number_in xs x) (number_itself x)
met_at (y ∷ xs) (suc i) x is = or_right (nat_eq x y) (is_number_in xs x) (met_at xs i x is)

-- ---- one is taken out

front_if : (same : Bool) (y x : ℕ) (xs rest : List ℕ) → nat_eq x y ≡ same → is_number_in xs y ≡ false → is_number_in xs x ≡ true → rest ≡ without xs x → y ∷ rest ≡ (if not same then y ∷ without xs x else without xs x)
front_if true y x xs rest is none there further = absurd (true≢false (sym there ∙ ap (is_number_in xs) (same_number x y is) ∙ none))
front_if false y x xs rest is none there further = ap (λ more. y ∷ more) further

gone_if : (same : Bool) (y x : ℕ) (xs : List ℕ) → nat_eq x y ≡ same → same ≡ true → is_number_in xs x ≡ false → xs ≡ (if not same then y ∷ without xs x else without xs x)
gone_if true y x xs is same none = sym (without_absent xs x none)
gone_if false y x xs is same none = absurd (true≢false (sym same))

-- of numbers that differ, taking out what is at a place leaves the others
pub removed_at : (xs : List ℕ) (i x : ℕ) → IsDistinct nat_eq xs → slice_get xs i ≡ Some x → remove xs i ≡ without xs x
unfolding IsDistinct
removed_at [] i x distinct is = cc
removed_at (y ∷ xs) zero x distinct is =
    let same : y ≡ x = same_some y x is in
    gone_if (nat_eq x y) y x xs refl (ap (nat_eq x) same ∙ number_itself x) (ap (is_number_in xs) (sym same) ∙ apart_none y xs distinct.0)
removed_at (y ∷ xs) (suc i) x distinct is =
    front_if (nat_eq x y) y x xs (remove xs i) refl (apart_none y xs distinct.0) (met_at xs i x is) (removed_at xs i x distinct.1 is)

-- the same of those that aren't gone
pub left_removed : (gone : ℕ) (xs : List ℕ) (i x : ℕ) → IsDistinct nat_eq xs → slice_get xs i ≡ Some x → gone ≤ i → drop gone (remove xs i) ≡ without (drop gone xs) x
unfolding IsDistinct
left_removed zero xs i x distinct is before = removed_at xs i x distinct is
left_removed (suc gone) [] i x distinct is before = cc
left_removed (suc gone) (y ∷ xs) zero x distinct is before = absurd (omega arith)
left_removed (suc gone) (y ∷ xs) (suc i) x distinct is before = left_removed gone xs i x distinct.1 is (omega arith)

-- who is gone isn't among those that are left
pub gone_absent : (gone : ℕ) (xs : List ℕ) (i x : ℕ) → IsDistinct nat_eq xs → slice_get xs i ≡ Some x → i < gone → is_number_in (drop gone xs) x ≡ false
unfolding IsDistinct
gone_absent zero xs i x distinct is before = absurd (omega arith)
gone_absent (suc gone) [] i x distinct is before = refl
gone_absent (suc gone) (y ∷ xs) zero x distinct is before = still_absent gone xs x (ap (is_number_in xs) (sym (same_some y x is)) ∙ apart_none y xs distinct.0)
gone_absent (suc gone) (y ∷ xs) (suc i) x distinct is before = gone_absent gone xs i x distinct.1 is (omega arith)

-- who isn't gone is among them
still_met : (gone : ℕ) (xs : List ℕ) (i x : ℕ) → slice_get xs i ≡ Some x → gone ≤ i → is_number_in (drop gone xs) x ≡ true
still_met zero xs i x is behind = met_at xs i x is
still_met (suc gone) [] i x is behind = cc
still_met (suc gone) (y ∷ xs) zero x is behind = absurd (omega arith)
still_met (suc gone) (y ∷ xs) (suc i) x is behind = still_met gone xs i x is (omega arith)

-- ---- one is moved

-- what stands behind one that was put in is what stood there
pub behind_insert : (n : ℕ) (xs : List ℕ) (x : ℕ) → n ≤ length xs → drop (suc n) (insert xs n x) ≡ drop n xs
behind_insert zero xs x within = refl
behind_insert (suc n) [] x within = absurd (omega arith)
behind_insert (suc n) (y ∷ xs) x within = behind_insert n xs x (omega arith)

move_within : (xs : List ℕ) (gone i : ℕ) → i < length xs → move_index xs i gone ≡ insert (remove xs i) gone (get_or xs i 0)
move_within xs gone i within = ap (λ found. option_map_or (λ x. insert (remove xs i) gone x) found xs) (slice_get-get_or xs i 0 within)

next_gone : (gone : ℕ) → gone + 1 ≡ suc gone
next_gone gone = omega arith

-- one that moves in front of the others leaves them as if it were removed
pub moved_front : (xs : List ℕ) (gone i : ℕ) → gone ≤ i → i < length xs → drop (gone + 1) (move_index xs i gone) ≡ drop gone (remove xs i)
moved_front xs gone i before within =
    (λ j. drop (next_gone gone j) (move_within xs gone i within j))
    ∙ behind_insert gone (remove xs i) (get_or xs i 0) (omega (arith, length-remove xs i within, before, within))

-- and there is room for it
pub moved_within : (xs : List ℕ) (gone i : ℕ) → gone ≤ i → i < length xs → gone + 1 ≤ length (move_index xs i gone)
moved_within xs gone i before within =
    let short = length-remove xs i within in
    let long : length (move_index xs i gone) ≡ length (remove xs i) + 1 = ap length (move_within xs gone i within) ∙ length-insert (remove xs i) gone (get_or xs i 0) (omega (arith, short, before, within)) in
    omega (arith, short, long, before, within)

pub removed_within : (xs : List ℕ) (gone i : ℕ) → gone ≤ i → i < length xs → gone ≤ length (remove xs i)
removed_within xs gone i before within = omega (arith, length-remove xs i within, before, within)

-- nobody is left where all are gone
pub all_gone : (xs : List ℕ) (gone : ℕ) → gone ≡ length xs → drop gone xs ≡ []
all_gone xs gone is = drop_all gone xs (omega (arith, is))

pub none_left : (xs : List ℕ) (gone : ℕ) → gone ≤ length xs → drop gone xs ≡ [] → gone ≡ length xs
none_left xs gone within none = omega (arith, length-drop gone xs, ap length none, within)

-- ---- one is found

-- what is at the place of a number is the number
found_at : (xs : List ℕ) (i x : ℕ) → position (nat_eq x) xs ≡ Some i → slice_get xs i ≡ Some x
found_at xs i x is =
    let there = position-Some (nat_eq x) xs i 0 is in
    slice_get-get_or xs i 0 there.0 ∙ ap Some (sym (same_number x (get_or xs i 0) there.1))

-- who is at a place is among those that are left where it isn't before them
pub left_at : (gone : ℕ) (xs : List ℕ) (i x : ℕ) → IsDistinct nat_eq xs → position (nat_eq x) xs ≡ Some i → nat_le gone i ≡ is_number_in (drop gone xs) x
left_at gone xs i x distinct is = elim (cases_lt i gone) [
  | inl before ↦ lt-leb gone i before ∙ sym (gone_absent gone xs i x distinct (found_at xs i x is) before)
  | inr behind ↦ le-leb gone i behind ∙ sym (still_met gone xs i x (found_at xs i x is) behind)
]

-- who is gone is taken out
pub gone_already : (gone : ℕ) (xs : List ℕ) (i x : ℕ) → IsDistinct nat_eq xs → position (nat_eq x) xs ≡ Some i → i < gone → drop gone xs ≡ without (drop gone xs) x
gone_already gone xs i x distinct is before = sym (without_absent (drop gone xs) x (gone_absent gone xs i x distinct (found_at xs i x is) before))

-- so is who isn't there
pub not_there : (gone : ℕ) (xs : List ℕ) (x : ℕ) → is_number_in xs x ≡ false → drop gone xs ≡ without (drop gone xs) x
not_there gone xs x none = sym (without_absent (drop gone xs) x (still_absent gone xs x none))

-- and who is removed from its place
pub removed_from : (gone : ℕ) (xs : List ℕ) (i x : ℕ) → IsDistinct nat_eq xs → position (nat_eq x) xs ≡ Some i → gone ≤ i → drop gone (remove xs i) ≡ without (drop gone xs) x
removed_from gone xs i x distinct is before = left_removed gone xs i x distinct (found_at xs i x is) before

-- who isn't there is missed by those that are left too
pub absent_alike : (gone : ℕ) (xs : List ℕ) (x : ℕ) → is_number_in xs x ≡ false → is_number_in (drop gone xs) x ≡ is_number_in xs x
absent_alike gone xs x none = still_absent gone xs x none ∙ sym none

arrived_if : (there : Bool) (gone : ℕ) (xs : List ℕ) (x : ℕ) → gone ≤ length xs → is_number_in xs x ≡ there → is_number_in (drop gone xs) x ≡ there
    → drop gone (if there then xs else xs ++ x ∷ []) ≡ arrived (drop gone xs) x
arrived_if true gone xs x within is left = ap (λ b. if b then drop gone xs else drop gone xs ++ x ∷ []) (sym left)
arrived_if false gone xs x within is left = drop-append-le gone xs (x ∷ []) within ∙ ap (λ b. if b then drop gone xs else drop gone xs ++ x ∷ []) (sym left)

-- who is put behind all arrives behind those that are left
pub arrived_behind : (gone : ℕ) (xs : List ℕ) (x : ℕ) → gone ≤ length xs → is_number_in (drop gone xs) x ≡ is_number_in xs x → drop gone (insert_key nat_eq xs x) ≡ arrived (drop gone xs) x
arrived_behind gone xs x within left = arrived_if (is_number_in xs x) gone xs x within refl left
