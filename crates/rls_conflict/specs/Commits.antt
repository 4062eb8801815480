-- What a commit needs, made ready before it.
use Rattle.std.specs.Prelude.{◌≡◌, ℕ, List, ◌&&◌, Bool, nat_eq, nat_lt, length}
use Rattle.std.specs.List.{list_any}
use Rattle.rls_siread.specs.Covering.{covered_of}
use Rattle.rls_history.specs.History.{rw}
use Rattle.rls_history.specs.Orders.{IsHistory}
use Rattle.rls_history.specs.Structures.{NoStructureBelow}
use Rattle.rls_conflict.specs.Transactions.{Transaction, history_of}
use Rattle.rls_conflict.specs.Known.{Known, running_at, with_commit_of}
use Rattle.rls_conflict.specs.declared.ready.Ready.{Ready}

-- the place is among them
abbrev pub is_place_in : List ℕ → ℕ → Bool
is_place_in places place = list_any (nat_eq place) places

-- those before it that the one at the place read from: it read a version of an object of which they wrote a later one
abbrev pub AreReadBy : List Transaction → ℕ → List ℕ → Type 0
AreReadBy transactions place places = (other : ℕ) → is_place_in places other ≡ (nat_lt other place && rw (history_of transactions) place other)

-- those before it that read from the one at the place
abbrev pub AreReadersOf : List Transaction → ℕ → List ℕ → Type 0
AreReadersOf transactions place places = (other : ℕ) → is_place_in places other ≡ (nat_lt other place && rw (history_of transactions) other place)

-- what is ready for the commit of the transaction: itself, the objects that its changes cover, and its rw-antidependencies with
-- those that committed before it
pub record IsReady (known : Known) (txn : ℕ) (ready : Ready) : Type 0 where
  pub transaction : ready.transaction ≡ running_at known txn
  pub covered : ready.covered ≡ covered_of (running_at known txn).changes
  pub read : AreReadBy (with_commit_of known txn) (length known.committed) ready.read.items
  pub readers : AreReadersOf (with_commit_of known txn) (length known.committed) ready.readers.items

-- an order can be made of the committed ones: each began before it committed, and no dangerous structure stands among them
abbrev pub CanBeOrdered : List Transaction → Type 0
CanBeOrdered transactions = IsHistory (history_of transactions) × NoStructureBelow (history_of transactions) (length transactions)
