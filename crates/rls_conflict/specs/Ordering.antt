-- How an order is made: each transaction's list of those that read from it and may be left, the next in turn.
use Rattle.std.specs.Prelude.{◌≡◌, ◌<◌, ℕ, List, [], Bool, true, false, length, get_or, Option, Some, None}
use Rattle.rls_history.specs.History.{History, rw}
use Rattle.rls_conflict.specs.declared.committed.Committed.{Committed}
use Rattle.rls_conflict.specs.Commits.{is_place_in}

-- whether the one at the place is placed
abbrev pub placed_in : List Bool → ℕ → Bool
placed_in placed place = get_or placed place false

-- the list of the one at the place
abbrev pub list_at : List (List ℕ) → ℕ → List ℕ
list_at lists place = get_or lists place []

-- it stands in the list of the one at the place
abbrev pub is_listed : List (List ℕ) → ℕ → ℕ → Bool
is_listed lists place reader = is_place_in (list_at lists place) reader

-- who stands in a list read from the one whose list it is, and who is left stands in the list of each that it read from
pub record AreListed (h : History) (placed : ℕ → Bool) (lists : List (List ℕ)) : Type 0 where
  pub size : length lists ≡ h.count
  pub only : (place reader : ℕ) → is_listed lists place reader ≡ true → (reader < h.count) × (rw h reader place ≡ true)
  pub left : (place reader : ℕ) → place < h.count → reader < h.count → placed reader ≡ false → rw h reader place ≡ true → is_listed lists place reader ≡ true

-- all places in the lists are below the number
abbrev pub AreWithin : ℕ → List (List ℕ) → Type 0
AreWithin n lists = (place reader : ℕ) → is_listed lists place reader ≡ true → reader < n

-- the first place that isn't placed
pub record IsFirst (placed : List Bool) (place : ℕ) : Type 0 where
  pub within : place < length placed
  pub is_left : placed_in placed place ≡ false
  pub least : (i : ℕ) → i < place → placed_in placed i ≡ true

-- those before it that the one at the place read from
abbrev pub read_in : Option Committed → List ℕ
read_in (Some it) = it.read.items
read_in None = []

-- those before it that read from the one at the place
abbrev pub readers_in : Option Committed → List ℕ
readers_in (Some it) = it.readers.items
readers_in None = []
