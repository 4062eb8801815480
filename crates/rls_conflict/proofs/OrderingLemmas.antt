-- Lists of readers: one list is put anew, and the next in turn is found by them.
use Rattle.std.specs.Prelude.{◌≡◌, refl, ℕ, ◌<◌, ◌+◌, Bool, true, false, ◌||◌, ◌&&◌, List, [], ◌∷◌, ◌++◌, length, get_or, take, slice_set, slice_get, nat_eq, cond, Some}
use Rattle.std.proofs.Common.{ap, sym, ◌∙◌}
use Rattle.std.proofs.lemmas.Bool.{true≢false, or_left, eq-eqb, eqb-true, eqb-false}
use Rattle.std.proofs.lemmas.List.{get_or-set_same, get_or-set_other}
use Rattle.std.proofs.lemmas.Option.{get_or_from_slice_get, slice_get_within}
use Rattle.std.proofs.Math.Seq.{take-length}
use Rattle.std.proofs.lemmas.List.Folds.{list_any-append, list_any_more, list_any_at}
use Rattle.rls_history.specs.History.{History}
use Rattle.rls_conflict.specs.Commits.{is_place_in}
use Rattle.rls_conflict.specs.Ordering.{list_at, is_listed, AreListed}

-- ---- one list is put anew

or_none : (b : Bool) → (b || false) ≡ b
or_none true = refl
or_none false = refl

-- who stands in the lists once one of them is put
put_case : (same : Bool) (lists : List (List ℕ)) (i place : ℕ) (list : List ℕ) → nat_eq place i ≡ same → i < length lists → list_at (slice_set lists i list) place ≡ cond same list (list_at lists place)
put_case true lists i place list is less = ap (list_at (slice_set lists i list)) (eqb-true place i is) ∙ get_or-set_same lists i list [] less
put_case false lists i place list is less = get_or-set_other lists i place list [] (eqb-false place i is)

pub list_put : (lists : List (List ℕ)) (i place : ℕ) (list : List ℕ) → i < length lists → list_at (slice_set lists i list) place ≡ cond (nat_eq place i) list (list_at lists place)
list_put lists i place list less = put_case (nat_eq place i) lists i place list refl less

-- a place stands in a list where it is read from it
pub place_itself : (places : List ℕ) (k : ℕ) → k < length places → is_place_in places (get_or places k 0) ≡ true
place_itself places k less = list_any_at (nat_eq (get_or places k 0)) places k 0 less (eq-eqb (get_or places k 0) (get_or places k 0) refl)

same_case : (same : Bool) (lists : List (List ℕ)) (i place reader : ℕ) (list : List ℕ) → nat_eq place i ≡ same → is_place_in list reader ≡ is_listed lists i reader
    → is_place_in (cond same list (list_at lists place)) reader ≡ is_listed lists place reader
same_case true lists i place reader list is are = are ∙ ap (λ n. is_listed lists n reader) (sym (eqb-true place i is))
same_case false lists i place reader list is are = refl

-- the same stand in the lists where the same stand in the one that is put
pub same_put : (lists : List (List ℕ)) (i place reader : ℕ) (list : List ℕ) → i < length lists → is_place_in list reader ≡ is_listed lists i reader
    → is_listed (slice_set lists i list) place reader ≡ is_listed lists place reader
same_put lists i place reader list less are =
    ap (λ (places : List ℕ). is_place_in places reader) (list_put lists i place list less) ∙ same_case (nat_eq place i) lists i place reader list refl are

-- ---- a reader is put into a list

added_case : (same : Bool) (lists : List (List ℕ)) (p place other reader : ℕ) (first more : Bool) → nat_eq place p ≡ same
    → is_listed lists place other ≡ (first || (nat_eq other reader && more))
    → is_place_in (cond same (list_at lists p ++ reader ∷ []) (list_at lists place)) other ≡ (first || (nat_eq other reader && (more || same)))
added_case true lists p place other reader first more is so_far =
    list_any-append (nat_eq other) (list_at lists p) (reader ∷ [])
    ∙ (λ i. (ap (λ n. is_listed lists n other) (sym (eqb-true place p is)) ∙ so_far) i || or_none (nat_eq other reader) i)
    ∙ by_case first (nat_eq other reader) more
  where
    by_case : (a b c : Bool) → ((a || (b && c)) || b) ≡ (a || (b && (c || true)))
    by_case true b c = refl
    by_case false true true = refl
    by_case false true false = refl
    by_case false false c = refl
added_case false lists p place other reader first more is so_far = so_far ∙ ap (λ b. first || (nat_eq other reader && b)) (sym (or_none more))

-- the reader is put behind the list of one more that it read from
pub reader_added : (lists first : List (List ℕ)) (read : List ℕ) (k reader place other : ℕ) (list : List ℕ) → k < length read → get_or read k 0 < length lists
    → list ≡ list_at lists (get_or read k 0) ++ reader ∷ []
    → is_listed lists place other ≡ (is_listed first place other || (nat_eq other reader && is_place_in (take k read) place))
    → is_listed (slice_set lists (get_or read k 0) list) place other ≡ (is_listed first place other || (nat_eq other reader && is_place_in (take (k + 1) read) place))
reader_added lists first read k reader place other list less within is so_far =
    ap (λ (places : List ℕ). is_place_in places other) (list_put lists (get_or read k 0) place list within ∙ ap (λ (new : List ℕ). cond (nat_eq place (get_or read k 0)) new (list_at lists place)) is)
    ∙ added_case (nat_eq place (get_or read k 0)) lists (get_or read k 0) place other reader (is_listed first place other) (is_place_in (take k read) place) refl so_far
    ∙ ap (λ b. is_listed first place other || (nat_eq other reader && b)) (sym (list_any_more (nat_eq place) read k 0 less))

-- ---- placed readers are dropped from a list

dropped_only : (same : Bool) (lists : List (List ℕ)) (i place reader : ℕ) (list : List ℕ) → nat_eq place i ≡ same → ((r : ℕ) → is_place_in list r ≡ true → is_listed lists i r ≡ true)
    → is_place_in (cond same list (list_at lists place)) reader ≡ true → is_listed lists place reader ≡ true
dropped_only true lists i place reader list is only there = ap (λ n. is_listed lists n reader) (eqb-true place i is) ∙ only reader there
dropped_only false lists i place reader list is only there = there

dropped_left : (same : Bool) (lists : List (List ℕ)) (i place reader : ℕ) (list : List ℕ) → nat_eq place i ≡ same → (is_listed lists i reader ≡ true → is_place_in list reader ≡ true)
    → is_listed lists place reader ≡ true → is_place_in (cond same list (list_at lists place)) reader ≡ true
dropped_left true lists i place reader list is left there = left (ap (λ n. is_listed lists n reader) (sym (eqb-true place i is)) ∙ there)
dropped_left false lists i place reader list is left there = there

-- who stands in the lists then stood there before
pub only_dropped : (lists : List (List ℕ)) (i : ℕ) (list : List ℕ) → i < length lists → ((r : ℕ) → is_place_in list r ≡ true → is_listed lists i r ≡ true)
    → (place reader : ℕ) → is_listed (slice_set lists i list) place reader ≡ true → is_listed lists place reader ≡ true
only_dropped lists i list less only place reader there =
    dropped_only (nat_eq place i) lists i place reader list refl only (ap (λ (places : List ℕ). is_place_in places reader) (sym (list_put lists i place list less)) ∙ there)

-- the lists tell the same of those that are left
pub still_listed : (h : History) (placed : ℕ → Bool) (lists : List (List ℕ)) (i : ℕ) (list : List ℕ) → i < length lists → length (slice_set lists i list) ≡ length lists
    → ((r : ℕ) → is_place_in list r ≡ true → is_listed lists i r ≡ true)
    → ((r : ℕ) → is_listed lists i r ≡ true → placed r ≡ false → is_place_in list r ≡ true)
    → AreListed h placed lists → AreListed h placed (slice_set lists i list)
still_listed h placed lists i list less same only left are = record {
  size = same ∙ are.size;
  only = λ place reader there. are.only place reader (only_dropped lists i list less only place reader there);
  left = λ place reader within below is reads.
      ap (λ (places : List ℕ). is_place_in places reader) (list_put lists i place list less)
      ∙ dropped_left (nat_eq place i) lists i place reader list refl (λ there. left reader there is) (are.left place reader within below is reads);
}

-- ---- the last reader of a list

-- one that stands at a place of the list is among them
pub found_among : (places : List ℕ) (k reader : ℕ) → slice_get places k ≡ Some reader → is_place_in places reader ≡ true
found_among places k reader is =
    ap (is_place_in places) (sym (get_or_from_slice_get places k reader 0 is)) ∙ place_itself places k (slice_get_within places k reader is)

-- without the last are all but it
pub among_popped : (places rest : List ℕ) (n reader r : ℕ) → n + 1 ≡ length places → rest ≡ take n places → slice_get places n ≡ Some reader
    → is_place_in places r ≡ (is_place_in rest r || nat_eq r reader)
among_popped places rest n reader r size is last =
    ap (λ (all : List ℕ). is_place_in all r) (sym (take-length places) ∙ ap (λ k. take k places) (sym size))
    ∙ list_any_more (nat_eq r) places n 0 (slice_get_within places n reader last)
    ∙ (λ i. is_place_in (sym is i) r || nat_eq r (get_or_from_slice_get places n reader 0 last i))

or_first : (a b : Bool) → b ≡ false → (a || b) ≡ true → a ≡ true
or_first true b none is = refl
or_first false b none is = absurd (true≢false (sym is ∙ none))

apart : (same : Bool) (placed : ℕ → Bool) (r reader : ℕ) → nat_eq r reader ≡ same → placed r ≡ false → placed reader ≡ true → same ≡ false
apart true placed r reader is none has = absurd (true≢false (sym has ∙ ap placed (sym (eqb-true r reader is)) ∙ none))
apart false placed r reader is none has = refl

-- who isn't placed is not the last, where that is placed
pub left_among_popped : (placed : ℕ → Bool) (places rest : List ℕ) (reader r : ℕ) → is_place_in places r ≡ (is_place_in rest r || nat_eq r reader) → placed reader ≡ true → placed r ≡ false
    → is_place_in places r ≡ true → is_place_in rest r ≡ true
left_among_popped placed places rest reader r are has none there =
    or_first (is_place_in rest r) (nat_eq r reader) (apart (nat_eq r reader) placed r reader refl none has) (sym are ∙ there)

pub only_popped : (places rest : List ℕ) (reader r : ℕ) → is_place_in places r ≡ (is_place_in rest r || nat_eq r reader) → is_place_in rest r ≡ true → is_place_in places r ≡ true
only_popped places rest reader r are there = are ∙ or_left (is_place_in rest r) (nat_eq r reader) there
