-- Orders of the committed transactions that keep `before` and `rw`.
use Rattle.std.specs.Prelude.{◌≡◌, ℕ, zero, suc, ◌==◌, ◌<◌, ◌≤◌, ◌+◌, ltb, Bool, true, false, ◌&&◌, ◌||◌, not, cond, List, [], ◌∷◌, length, get_or}
use Rattle.rls_history.specs.History.{History, before, rw, any_below}

-- each began before it committed, and only what was changed is read by others
pub record IsHistory (h : History) : Type 0 where
  pub began : (i : ℕ) → i < h.count → h.snap i ≤ i
  pub was_written : (i j : ℕ) → h.has_read i j ≡ true → h.has_written j ≡ true

-- the one has to stand before the other: it committed before the other began, or it read what the other wrote
abbrev pub precedes : History → ℕ → ℕ → Bool
precedes h one other = before h one other || rw h one other

-- the transactions that are placed, and one more
abbrev pub with_placed : (ℕ → Bool) → ℕ → ℕ → Bool
with_placed placed t i = (i == t) || placed i

-- no transaction
abbrev pub none_placed : ℕ → Bool
none_placed i = false

-- the transaction may stand next: it isn't placed, and all that have to stand before it are
pub record IsNext (h : History) (placed : ℕ → Bool) (t : ℕ) : Type 0 where
  pub within : t < h.count
  pub is_left : placed t ≡ false
  pub all_before : (i : ℕ) → i < h.count → precedes h i t ≡ true → placed i ≡ true

-- each in turn may stand next, after those placed before
abbrev pub StandInTurn : History → (ℕ → Bool) → List ℕ → Type 0
StandInTurn h placed [] = Unit {0}
StandInTurn h placed (t ∷ ts) = IsNext h placed t × StandInTurn h (with_placed placed t) ts

-- the transactions that are placed after these
abbrev pub placed_by : (ℕ → Bool) → List ℕ → ℕ → Bool
placed_by placed [] = placed
placed_by placed (t ∷ ts) = placed_by (with_placed placed t) ts

-- an order of all committed transactions, each once, and each after all that have to stand before it
pub record IsOrder (h : History) (order : List ℕ) : Type 0 where
  pub in_turn : StandInTurn h none_placed order
  pub all : (i : ℕ) → i < h.count → placed_by none_placed order i ≡ true

-- the place of a transaction in an order
abbrev pub place_in : List ℕ → ℕ → ℕ
place_in [] i = 0
place_in (t ∷ ts) i = cond (i == t) 0 (suc (place_in ts i))

-- Each committed transaction stands in it, at each place stands one whose place it is, and what has to stand before another does.
-- So there is no circle of `before` and `rw`.
pub record IsInOrder (h : History) (order : List ℕ) : Type 0 where
  pub stands : (i : ℕ) → i < h.count → place_in order i < length order
  pub once : (k : ℕ) → k < length order → (get_or order k 0 < h.count) × (place_in order (get_or order k 0) ≡ k)
  pub kept : (i j : ℕ) → i < h.count → j < h.count → precedes h i j ≡ true → place_in order i < place_in order j

-- whether the transaction may stand next
abbrev pub is_next : History → (ℕ → Bool) → ℕ → Bool
is_next h placed t = ltb t h.count && (not (placed t) && not (any_below (λ (i : ℕ). precedes h i t && not (placed i)) h.count))

-- whether each in turn may stand next, after those placed before
abbrev pub stand_in_turn : History → (ℕ → Bool) → List ℕ → Bool
stand_in_turn h placed [] = true
stand_in_turn h placed (t ∷ ts) = is_next h placed t && stand_in_turn h (with_placed placed t) ts

-- whether the list is an order
abbrev pub is_order : History → List ℕ → Bool
is_order h order = stand_in_turn h none_placed order && not (any_below (λ (i : ℕ). not (placed_by none_placed order i)) h.count)

-- how many of those below the number aren't placed
abbrev pub left_below : (ℕ → Bool) → ℕ → ℕ
left_below placed zero = 0
left_below placed (suc n) = cond (placed n) 0 1 + left_below placed n

-- the first in the order of commits that isn't placed
pub record IsFirstLeft (h : History) (placed : ℕ → Bool) (t : ℕ) : Type 0 where
  pub within : t < h.count
  pub is_left : placed t ≡ false
  pub least : (i : ℕ) → i < t → placed i ≡ true

-- a transaction that isn't placed read what this one wrote
pub record IsReaderLeft (h : History) (placed : ℕ → Bool) (t reader : ℕ) : Type 0 where
  pub within : reader < h.count
  pub is_left : placed reader ≡ false
  pub reads : rw h reader t ≡ true

-- none that isn't placed read what this one wrote
abbrev pub NoReaderLeft : History → (ℕ → Bool) → ℕ → Type 0
NoReaderLeft h placed t = (i : ℕ) → i < h.count → placed i ≡ false → rw h i t ≡ false
