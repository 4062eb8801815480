-- What is sorted and has the same rows is the listing: a sorted list is determined by how often it has each element.
use Rattle.std.proofs.Common.{◌≡◌, ℕ, suc, ◌+◌, Bool, true, false, cond, List, [], ◌∷◌, refl, arith, ap, sym, subst, ◌∙◌}
use Rattle.std.specs.Prelude.{if◌then◌else◌, slice_index_or}
use Rattle.std.specs.List.{sum_by}
use Rattle.std.specs.List.Sorted.{IsSorted, IsPermutation}
use Rattle.std.specs.Cmp.Lexicographic.{slice_cmp}
use Rattle.std.specs.Ordering.{is_eq, is_lt, ordering_reverse}
use Rattle.std.specs.declared.cmp.Ordering.{Ordering}
use Rattle.std.specs.declared.cmp.Ordering.TheVariants.{Less, Equal, Greater}
use Rattle.std.proofs.{lemmas.Bool.true≢false, lemmas.Cmp.tied_itself, lemmas.List.Sorted.sum_by-IsPermutation, lemmas.List.Sums.sum_by-cons}
use Rattle.rls_value.specs.{declared.value.Value.Value, Values.listed, Listing.rows_total}
use Rattle.rls_value.proofs.ListingLaws.{rows_same}
use Rattle.rls_dml.specs.Listings.{put_listed, listing}

-- ---- lists that rise

abbrev Above : List Value → List (List Value) → Type 0
Above x [] = Unit {0}
Above x (y ∷ ys) = is_lt (slice_cmp listed y x) ≡ false

abbrev Rises : List (List Value) → Type 0
Rises [] = Unit {0}
Rises (x ∷ xs) = Above x xs × Rises xs

rises_if_sorted : (xs : List (List Value)) → IsSorted (slice_cmp listed) xs → Rises xs
rises_if_sorted [] sorted = tt
rises_if_sorted (x ∷ []) sorted = (tt, tt)
rises_if_sorted (x ∷ y ∷ ys) sorted = (
  sorted 0 x (omega arith) (omega arith),
  rises_if_sorted (y ∷ ys) (λ k d low high.
      let more : suc k + 1 ≡ suc (k + 1) = omega arith in
      subst (λ n. is_lt (slice_cmp listed (slice_index_or (x ∷ y ∷ ys) n d) (slice_index_or (y ∷ ys) k d)) ≡ false) more (sorted (suc k) d (omega arith) (omega (arith, high)))),
)

turned : (x y : List Value) (o : Ordering) → slice_cmp listed x y ≡ o → slice_cmp listed y x ≡ ordering_reverse o
turned x y o is = rows_total.antisymm y x ∙ ap ordering_reverse is

above_put : (row other : List Value) (rows : List (List Value)) → is_lt (slice_cmp listed row other) ≡ false → Above other rows → Above other (put_listed row rows)
above_put row other [] not_less above = not_less
above_put row other (x ∷ rows) not_less above = above_if (is_lt (slice_cmp listed x row))
  where
    above_if : (b : Bool) → Above other (if b then x ∷ put_listed row rows else row ∷ x ∷ rows)
    above_if true = above
    above_if false = not_less

not_back : (x y : List Value) (o : Ordering) → slice_cmp listed x y ≡ o → is_lt o ≡ true → is_lt (slice_cmp listed y x) ≡ false
not_back x y Less is less = ap is_lt (turned x y Less is)
not_back x y Equal is less = absurd (true≢false (sym less))
not_back x y Greater is less = absurd (true≢false (sym less))

rises_put : (row : List Value) (rows : List (List Value)) → Rises rows → Rises (put_listed row rows)
rises_put row [] rises = (tt, tt)
rises_put row (x ∷ rows) rises = rises_if (is_lt (slice_cmp listed x row)) refl (rises_put row rows rises.1)
  where
    rises_if : (b : Bool) → is_lt (slice_cmp listed x row) ≡ b → Rises (put_listed row rows) → Rises (if b then x ∷ put_listed row rows else row ∷ x ∷ rows)
    rises_if true is further = (above_put row x rows (not_back x row (slice_cmp listed x row) refl is) rises.0, further)
    rises_if false is further = (is, rises)

listing_rises : (rows : List (List Value)) → Rises (listing rows)
listing_rises [] = tt
listing_rises (row ∷ rows) = rises_put row (listing rows) (listing_rises rows)

-- ---- how often each row is there

abbrev one_if : List Value → List Value → ℕ
one_if row other = cond (is_eq (slice_cmp listed row other)) 1 0

abbrev times : List Value → List (List Value) → ℕ
times row rows = sum_by (one_if row) rows

times_put : (row new : List Value) (rows : List (List Value)) → times row (put_listed new rows) ≡ one_if row new + times row rows
times_put row new [] = sum_by-cons (one_if row) new []
times_put row new (x ∷ rows) = times_if (is_lt (slice_cmp listed x new)) (times_put row new rows)
  where
    times_if : (b : Bool) → times row (put_listed new rows) ≡ one_if row new + times row rows → times row (if b then x ∷ put_listed new rows else new ∷ x ∷ rows) ≡ one_if row new + times row (x ∷ rows)
    times_if true further = omega (arith, sum_by-cons (one_if row) x (put_listed new rows), further, sum_by-cons (one_if row) x rows)
    times_if false further = sum_by-cons (one_if row) new (x ∷ rows)

times_listing : (row : List Value) (rows : List (List Value)) → times row (listing rows) ≡ times row rows
times_listing row [] = refl
times_listing row (x ∷ rows) = omega (arith, times_put row x (listing rows), times_listing row rows, sum_by-cons (one_if row) x rows)

once_there : (row : List Value) → one_if row row ≡ 1
once_there row = ap (λ o. cond (is_eq o) 1 0) (tied_itself rows_total row)

less_next : (x y z : List Value) (o : Ordering) → slice_cmp listed y z ≡ o → slice_cmp listed x y ≡ Less → is_lt (slice_cmp listed z y) ≡ false → slice_cmp listed x z ≡ Less
less_next x y z Less is less rises = rows_total.trans x y z less is
less_next x y z Equal is less rises = ap (slice_cmp listed x) (sym (rows_same y z is)) ∙ less
less_next x y z Greater is less rises = absurd (true≢false (sym (ap is_lt (turned y z Greater is)) ∙ rises))

none_above : (row x : List Value) (rows : List (List Value)) → slice_cmp listed row x ≡ Less → Rises (x ∷ rows) → times row (x ∷ rows) ≡ 0
none_above row x [] less rises =
    let none : one_if row x ≡ 0 = ap (λ o. cond (is_eq o) 1 0) less in
    omega (arith, sum_by-cons (one_if row) x [], none)
none_above row x (y ∷ rows) less rises =
    let none : one_if row x ≡ 0 = ap (λ o. cond (is_eq o) 1 0) less in
    omega (arith, sum_by-cons (one_if row) x (y ∷ rows), none, none_above row y rows (less_next row x y (slice_cmp listed x y) refl less rises.0) rises.1)

-- ---- the same rows, both rising, are the same list

same_rising : (xs ys : List (List Value)) → Rises xs → Rises ys → ((row : List Value) → times row xs ≡ times row ys) → xs ≡ ys
same_rising [] [] first second same = refl
same_rising [] (y ∷ ys) first second same = absurd (omega (arith, same y, sum_by-cons (one_if y) y ys, once_there y))
same_rising (x ∷ xs) [] first second same = absurd (omega (arith, same x, sum_by-cons (one_if x) x xs, once_there x))
same_rising (x ∷ xs) (y ∷ ys) first second same = by_order (slice_cmp listed x y) refl (same_rising xs ys first.1 second.1)
  where
    by_order : (o : Ordering) → slice_cmp listed x y ≡ o → (((row : List Value) → times row xs ≡ times row ys) → xs ≡ ys) → x ∷ xs ≡ y ∷ ys
    by_order Less is further = absurd (omega (arith, same x, none_above x y ys is second, sum_by-cons (one_if x) x xs, once_there x))
    by_order Equal is further =
        let here : x ≡ y = rows_same x y is in
        ap (λ row. row ∷ xs) here ∙ ap (λ rows. y ∷ rows) (further (λ row.
        omega (arith, same row, sum_by-cons (one_if row) x xs, sum_by-cons (one_if row) y ys, ap (one_if row) here)))
    by_order Greater is further = absurd (omega (arith, same y, none_above y x xs (turned x y Greater is) first, sum_by-cons (one_if y) y ys, once_there y))

-- what a sort leaves is the listing
pub sorted_is_listing : (rows sorted : List (List Value)) → IsPermutation rows sorted → IsSorted (slice_cmp listed) sorted → sorted ≡ listing rows
sorted_is_listing rows sorted same rises =
    same_rising sorted (listing rows) (rises_if_sorted sorted rises) (listing_rises rows) (λ row. sum_by-IsPermutation (one_if row) rows sorted same ∙ sym (times_listing row rows))
