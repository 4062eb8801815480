-- What the search for a dangerous structure finds among the rw-antidependencies of a transaction that commits now.
use Rattle.std.specs.Prelude.{◌≡◌, ℕ, List, Bool, true, false, not, ◌&&◌, ◌||◌, nat_le, nat_lt, slice_get, Option, Some, None}
use Rattle.rls_history.specs.Transactions.{is_empty}
use Rattle.rls_conflict.specs.declared.committed.Committed.{Committed}
use Rattle.rls_conflict.specs.Commits.{is_place_in}

-- there is one at the place, and it passes
abbrev pub passes : (Committed → Bool) → Option Committed → Bool
passes test (Some it) = test it
passes test None = false

abbrev pub holds_at : (Committed → Bool) → List Committed → ℕ → Bool
holds_at test committed place = passes test (slice_get committed place)

-- it changed something, or began after the last had committed
abbrev pub is_first_for : ℕ → Committed → Bool
is_first_for last it = not (is_empty it.transaction.changes) || nat_lt last it.transaction.snap

-- the first counts for the last: the last committed no later, and before the first began where that only read
abbrev pub counts_for : List Committed → ℕ → ℕ → Bool
counts_for committed first last = nat_le last first && holds_at (is_first_for last) committed first

-- ---- with the transaction as the pivot

-- no last one counts for the first
abbrev pub NoLast : List Committed → ℕ → List ℕ → Type 0
NoLast committed first read = (last : ℕ) → is_place_in read last ≡ true → counts_for committed first last ≡ false

-- a last one that counts for the first
pub record IsLast (committed : List Committed) (first : ℕ) (others : List ℕ) (last : ℕ) : Type 0 where
  pub read : is_place_in others last ≡ true
  pub counts : counts_for committed first last ≡ true

-- no first one has a last one that counts
abbrev pub NoneAround : List Committed → List ℕ → List ℕ → Type 0
NoneAround committed readers read = (first : ℕ) → is_place_in readers first ≡ true → NoLast committed first read

-- one that read from the transaction, with a last one that counts
pub record IsAround (committed : List Committed) (readers others : List ℕ) (found : ℕ × ℕ) : Type 0 where
  pub reader : is_place_in readers found.0 ≡ true
  pub last : IsLast committed found.0 others found.1

-- ---- with the transaction as the first

-- the one at the place read from the last
abbrev pub has_read_from : List Committed → ℕ → ℕ → Bool
has_read_from committed pivot last = holds_at (λ it. is_place_in it.read.items last) committed pivot

-- the transaction changed something, or began after the last had committed
abbrev pub counts_now : Bool → ℕ → ℕ → Bool
counts_now has_written snap last = has_written || nat_lt last snap

-- no last one counts for the pivot
abbrev pub NoFurther : List Committed → Bool → ℕ → ℕ → Type 0
NoFurther committed has_written snap pivot = (last : ℕ) → has_read_from committed pivot last ≡ true → counts_now has_written snap last ≡ false

-- a last one that counts, from which the pivot read
pub record IsFurther (committed : List Committed) (has_written : Bool) (snap pivot last : ℕ) : Type 0 where
  pub further : has_read_from committed pivot last ≡ true
  pub counts : counts_now has_written snap last ≡ true

-- no pivot has a last one that counts
abbrev pub NoneBeyond : List Committed → List ℕ → Bool → ℕ → Type 0
NoneBeyond committed read has_written snap = (pivot : ℕ) → is_place_in read pivot ≡ true → NoFurther committed has_written snap pivot

-- one from which the transaction read, with a last one that counts
pub record IsBeyond (committed : List Committed) (others : List ℕ) (has_written : Bool) (snap : ℕ) (found : ℕ × ℕ) : Type 0 where
  pub read : is_place_in others found.0 ≡ true
  pub last : IsFurther committed has_written snap found.0 found.1
