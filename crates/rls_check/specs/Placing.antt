-- How far an order is read: which transactions are placed.
use Rattle.std.specs.Prelude.{◌≡◌, ◌⊎◌, ℕ, ◌<◌, Bool, true, false, List, length, map, get_or, Option, Some}
use Rattle.std.specs.List.{All}
use Rattle.std.specs.Ordering.{nat_cmp}
use Rattle.std.specs.BTreeMap.{BTreeMap, get}
use Rattle.rls_history.specs.Orders.{StandInTurn, placed_by, none_placed}
use Rattle.rls_check.specs.declared.transaction.Transaction.{Transaction}
use Rattle.rls_check.specs.Audited.{transaction_at}
use Rattle.rls_check.specs.Checking.{history_of}

-- the first transactions stand in it under their numbers, and no others
pub record IsIndex (transactions : List Transaction) (count : ℕ) (index : BTreeMap ℕ ℕ) : Type 0 where
  pub own : (place : ℕ) → place < count → get nat_cmp index (transaction_at transactions place).txn ≡ Some place
  pub within : (number place : ℕ) → get nat_cmp index number ≡ Some place → place < count
  pub only : (number place : ℕ) → get nat_cmp index number ≡ Some place → (transaction_at transactions place).txn ≡ number

-- each that is placed stands in its turn; all below the number are placed, and it isn't
pub record IsPlacing (transactions : List Transaction) (placed : List Bool) (left : ℕ) (places : List ℕ) : Type 0 where
  pub size : length placed ≡ length transactions
  pub tells : (place : ℕ) → get_or placed place false ≡ placed_by none_placed places place
  pub before : (place : ℕ) → place < left → get_or placed place false ≡ true
  pub is_left : left < length placed → get_or placed left false ≡ false
  pub in_turn : StandInTurn (history_of transactions) none_placed places
  pub within : All (λ place. place < length transactions) places

-- no two have one number
abbrev pub AreApart : List Transaction → Type 0
AreApart transactions = (i j : ℕ) → i < length transactions → j < length transactions → (transaction_at transactions i).txn ≡ (transaction_at transactions j).txn → i ≡ j

-- the transaction of that number is placed, or began after more commits than are all placed
abbrev pub HasToWait : List Transaction → List Bool → ℕ → ℕ → Type 0
HasToWait transactions placed left number =
    (place : ℕ) → place < length transactions → (transaction_at transactions place).txn ≡ number → (get_or placed place false ≡ true) ⊎ (left < (transaction_at transactions place).snap)
