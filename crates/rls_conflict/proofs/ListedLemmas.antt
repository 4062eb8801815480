-- The rw-antidependencies that the entries keep are all that there are.
use Rattle.std.specs.Prelude.{◌≡◌, refl, ℕ, zero, suc, ◌<◌, ◌+◌, Bool, true, false, ◌||◌, ◌&&◌, not, List, [], ◌∷◌, length, slice_get, nat_eq, nat_lt, Option, Some, None, ◌⊎◌}
use Rattle.std.specs.Option.{is_some}
use Rattle.std.proofs.Common.{ap, sym, ◌∙◌, inl, inr, arith}
use Rattle.std.proofs.lemmas.Bool.{true≢false, or_cases, or_left, or_right, eq-eqb, eqb-true, lt-ltb, ltb-true, le-ltb, cases_order}
use Rattle.std.proofs.lemmas.List.{length-map}
use Rattle.std.proofs.lemmas.Option.{slice_get_within}
use Rattle.rls_history.specs.History.{History, before, rw}
use Rattle.rls_history.specs.Orders.{none_placed}
use Rattle.rls_conflict.specs.declared.committed.Committed.{Committed}
use Rattle.rls_conflict.specs.Transactions.{history_of}
use Rattle.rls_conflict.specs.Commits.{is_place_in}
use Rattle.rls_conflict.specs.Kept.{AreEntries, all_committed, committed_seen}
use Rattle.rls_conflict.specs.Ordering.{is_listed, AreListed, read_in, readers_in}

first_of : (a b : Bool) → (a && b) ≡ true → a ≡ true
first_of true b both = refl
first_of false b both = both

second_of : (a b : Bool) → (a && b) ≡ true → b ≡ true
second_of true b both = both
second_of false b both = absurd (true≢false (sym both))

both_of : (a b : Bool) → a ≡ true → b ≡ true → (a && b) ≡ true
both_of true b is also = also
both_of false b is also = is

less_of : (found reads : Bool) (i j : ℕ) → (found && (nat_lt i j && reads)) ≡ true → i < j
less_of true reads i j both = ltb-true i j (first_of (nat_lt i j) reads both)
less_of false reads i j both = absurd (true≢false (sym both))

-- ---- the later readers, one after another

never_same : (o k : ℕ) (same : Bool) → nat_eq o k ≡ same → (o ≡ k → ⊥) → same ≡ false
never_same o k true is differ = absurd (differ (eqb-true o k is))
never_same o k false is differ = refl

lt_case : (o k : ℕ) → (o ≡ k) ⊎ ((o < k) ⊎ (k < o)) → nat_lt o (suc k) ≡ (nat_lt o k || nat_eq o k)
lt_case o k (inl same) = lt-ltb o (suc k) (omega (arith, same)) ∙ sym (or_right (nat_lt o k) (nat_eq o k) (eq-eqb o k same))
lt_case o k (inr (inl less)) = lt-ltb o (suc k) (omega (arith, less)) ∙ sym (or_left (nat_lt o k) (nat_eq o k) (lt-ltb o k less))
lt_case o k (inr (inr more)) =
    le-ltb o (suc k) (omega (arith, more))
    ∙ sym ((λ i. le-ltb o k (omega (arith, more)) i || nat_eq o k) ∙ never_same o k (nat_eq o k) refl (λ same. omega (arith, more, same)))

lt_more : (o k : ℕ) → nat_lt o (suc k) ≡ (nat_lt o k || nat_eq o k)
lt_more o k = lt_case o k (cases_order o k)

more_case : (a below same f g : Bool) → (same ≡ true → f ≡ g) → ((a || (below && f)) || (same && g)) ≡ (a || ((below || same) && f))
more_case true below same f g is = refl
more_case false true true true g is = refl
more_case false true true false g is = sym (is refl)
more_case false true false true g is = refl
more_case false true false false g is = refl
more_case false false true f g is = sym (is refl)
more_case false false false f g is = refl

-- those that one more read from are found in what it keeps
pub later_more : (first : Bool) (reads : ℕ → Bool) (o k : ℕ) → ((first || (nat_lt o k && reads o)) || (nat_eq o k && reads k)) ≡ (first || (nat_lt o (k + 1) && reads o))
later_more first reads o k =
    more_case first (nat_lt o k) (nat_eq o k) (reads o) (reads k) (λ same. ap reads (eqb-true o k same))
    ∙ ap (λ b. first || (b && reads o)) (sym (lt_more o k) ∙ ap (nat_lt o) (suc_is k))
  where
    suc_is : (n : ℕ) → suc n ≡ n + 1
    suc_is n = omega arith

-- ---- what the entries keep

is_there : {X : Type 0} (xs : List X) (k : ℕ) → k < length xs → is_some (slice_get xs k) ≡ true
is_there [] k less = absurd (omega (arith, less))
is_there (x ∷ xs) zero less = refl
is_there (x ∷ xs) (suc k) less = is_there xs k (omega (arith, less))

itself_never : (h : History) (i : ℕ) → rw h i i ≡ false
itself_never h i = ap (λ b. ((not b && not (before h i i)) && not (before h i i)) && h.has_read i i) (eq-eqb i i refl)

module _ (committed : List Committed) (entries : AreEntries committed) where
  readers_kept : (place reader : ℕ) (found : Option Committed) → slice_get committed place ≡ found
      → is_place_in (readers_in found) reader ≡ (is_some found && (nat_lt reader place && rw (history_of (all_committed committed)) reader place))
  readers_kept place reader None is = refl
  readers_kept place reader (Some it) is = (entries place it is).readers reader

  read_kept : (place reader : ℕ) (found : Option Committed) → slice_get committed reader ≡ found
      → is_place_in (read_in found) place ≡ (is_some found && (nat_lt place reader && rw (history_of (all_committed committed)) reader place))
  read_kept place reader None is = refl
  read_kept place reader (Some it) is = (entries reader it is).read place

  some_within : (k : ℕ) (found : Option Committed) → slice_get committed k ≡ found → is_some found ≡ true → k < length committed
  some_within k None is has = absurd (true≢false (sym has))
  some_within k (Some it) is has = slice_get_within committed k it is

  -- those that one read from stand before it
  pub read_within : (place reader : ℕ) → is_place_in (read_in (slice_get committed reader)) place ≡ true → place < length committed
  read_within place reader there =
      let kept : (is_some (slice_get committed reader) && (nat_lt place reader && rw (history_of (all_committed committed)) reader place)) ≡ true = sym (read_kept place reader (slice_get committed reader) refl) ∙ there in
      let within : reader < length committed = some_within reader (slice_get committed reader) refl (first_of (is_some (slice_get committed reader)) (nat_lt place reader && rw (history_of (all_committed committed)) reader place) kept) in
      let less : place < reader = less_of (is_some (slice_get committed reader)) (rw (history_of (all_committed committed)) reader place) place reader kept in
      omega (arith, within, less)

  -- lists of all that the entries keep are lists of all readers
  pub all_listed : (lists : List (List ℕ)) → length lists ≡ length committed
      → ((place reader : ℕ) → is_listed lists place reader ≡ (is_place_in (readers_in (slice_get committed place)) reader || (nat_lt reader (length committed) && is_place_in (read_in (slice_get committed reader)) place)))
      → AreListed (history_of (all_committed committed)) none_placed lists
  all_listed lists same are = record {
    size = same ∙ sym (length-map committed committed_seen);
    only = λ place reader there. only_case place reader (or_cases _ _ (sym (are place reader) ∙ there));
    left = λ place reader within below none reads.
        are place reader
        ∙ left_case place reader (let n = length-map committed committed_seen in omega (arith, n, within)) (let n = length-map committed committed_seen in omega (arith, n, below)) reads (cases_order reader place);
  }
    where
      only_case : (place reader : ℕ)
          → (is_place_in (readers_in (slice_get committed place)) reader ≡ true) ⊎ ((nat_lt reader (length committed) && is_place_in (read_in (slice_get committed reader)) place) ≡ true)
          → (reader < length (all_committed committed)) × (rw (history_of (all_committed committed)) reader place ≡ true)
      only_case place reader (inl there) =
          let kept : (is_some (slice_get committed place) && (nat_lt reader place && rw (history_of (all_committed committed)) reader place)) ≡ true = sym (readers_kept place reader (slice_get committed place) refl) ∙ there in
          let within : place < length committed = some_within place (slice_get committed place) refl (first_of (is_some (slice_get committed place)) (nat_lt reader place && rw (history_of (all_committed committed)) reader place) kept) in
          let less : reader < place = less_of (is_some (slice_get committed place)) (rw (history_of (all_committed committed)) reader place) reader place kept in
          let n = length-map committed committed_seen in
          (omega (arith, within, less, n), second_of _ _ (second_of _ _ kept))
      only_case place reader (inr there) =
          let within : reader < length committed = ltb-true reader (length committed) (first_of (nat_lt reader (length committed)) (is_place_in (read_in (slice_get committed reader)) place) there) in
          let kept : (is_some (slice_get committed reader) && (nat_lt place reader && rw (history_of (all_committed committed)) reader place)) ≡ true =
          sym (read_kept place reader (slice_get committed reader) refl) ∙ second_of (nat_lt reader (length committed)) (is_place_in (read_in (slice_get committed reader)) place) there in
          let n = length-map committed committed_seen in
          (omega (arith, within, n), second_of _ _ (second_of _ _ kept))

      left_case : (place reader : ℕ) → place < length committed → reader < length committed → rw (history_of (all_committed committed)) reader place ≡ true
          → (reader ≡ place) ⊎ ((reader < place) ⊎ (place < reader))
          → (is_place_in (readers_in (slice_get committed place)) reader || (nat_lt reader (length committed) && is_place_in (read_in (slice_get committed reader)) place)) ≡ true
      left_case place reader within below reads (inl same) =
          absurd (true≢false (sym reads ∙ ap (λ i. rw (history_of (all_committed committed)) i place) same ∙ itself_never (history_of (all_committed committed)) place))
      left_case place reader within below reads (inr (inl less)) =
          or_left (is_place_in (readers_in (slice_get committed place)) reader) _
          (readers_kept place reader (slice_get committed place) refl ∙ both_of _ _ (is_there committed place within) (both_of _ _ (lt-ltb reader place less) reads))
      left_case place reader within below reads (inr (inr less)) =
          or_right (is_place_in (readers_in (slice_get committed place)) reader) _
          (both_of _ _ (lt-ltb reader (length committed) below)
          (read_kept place reader (slice_get committed reader) refl ∙ both_of _ _ (is_there committed reader below) (both_of _ _ (lt-ltb place reader less) reads)))
