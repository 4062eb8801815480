-- One place more among places.
use Rattle.std.specs.Prelude.{◌≡◌, refl, ℕ, List, [], ◌∷◌, ◌<◌, ◌+◌, Bool, true, false, ◌||◌, nat_eq, length, take, slice_index_or, Option}
use Rattle.std.specs.BTreeSet.{insert_key}
use Rattle.std.specs.Ordering.{is_eq, nat_cmp, match_ordering}
use Rattle.std.specs.declared.cmp.Ordering.{Ordering}
use Rattle.std.specs.declared.cmp.Ordering.TheVariants.{Less, Equal, Greater}
use Rattle.std.proofs.Common.{ap, sym, ◌∙◌}
use Rattle.std.proofs.lemmas.List.Folds.{list_any_more}
use Rattle.rls_siread.specs.Locks.{Locks, commit_of}
use Rattle.rls_siread.proofs.LocksLaws.{same_number, number_at}
use Rattle.rls_conflict.specs.Commits.{is_place_in}
use Rattle.rls_conflict.specs.Concurrent.{is_at_place, is_place_of}

or_swapped : (a b c : Bool) → (a || (b || c)) ≡ (b || (a || c))
or_swapped true true c = refl
or_swapped true false c = refl
or_swapped false b c = refl

or_same : (a c : Bool) → (a || c) ≡ (a || (a || c))
or_same true c = refl
or_same false c = refl

pub or_inner : (a b c : Bool) → ((a || b) || c) ≡ (a || (b || c))
or_inner true b c = refl
or_inner false b c = refl

put_if : (order : Ordering) (places more : List ℕ) (x place other : ℕ) → nat_cmp place x ≡ order → is_place_in more other ≡ (nat_eq other place || is_place_in places other)
    → is_place_in (match_ordering order (place ∷ x ∷ places) (x ∷ places) (x ∷ more)) other ≡ (nat_eq other place || is_place_in (x ∷ places) other)
put_if Less places more x place other is further = refl
put_if Equal places more x place other is further =
    or_same (nat_eq other x) (is_place_in places other) ∙ ap (λ y. nat_eq other y || is_place_in (x ∷ places) other) (sym (same_number place x (sym (number_at place x) ∙ ap is_eq is)))
put_if Greater places more x place other is further =
    ap (λ b. nat_eq other x || b) further ∙ or_swapped (nat_eq other x) (nat_eq other place) (is_place_in places other)

-- a place is among them with one more where it is that one, or was among them
pub place_put : (places : List ℕ) (place other : ℕ) → is_place_in (insert_key nat_cmp places place) other ≡ (nat_eq other place || is_place_in places other)
place_put [] place other = refl
place_put (x ∷ places) place other = put_if (nat_cmp place x) places (insert_key nat_cmp places place) x place other refl (place_put places place other)

-- the places of one transaction more
pub place_more : (locks : Locks) (snap : ℕ) (numbers : List ℕ) (i : ℕ) (commit : Option ℕ) (was now : Bool) (place : ℕ) → i < length numbers → commit ≡ commit_of locks (slice_index_or numbers i 0)
    → (old : Bool) → old ≡ (was || is_place_of locks snap (take i numbers) place) → now ≡ (old || is_at_place snap commit place)
    → now ≡ (was || is_place_of locks snap (take (i + 1) numbers) place)
place_more locks snap numbers i commit was now place within is old so_far more =
    more
    ∙ (λ k. so_far k || is_at_place snap (is k) place)
    ∙ or_inner was (is_place_of locks snap (take i numbers) place) (is_at_place snap (commit_of locks (slice_index_or numbers i 0)) place)
    ∙ ap (λ b. was || b) (sym (list_any_more (λ number. is_at_place snap (commit_of locks number) place) numbers i 0 within))
