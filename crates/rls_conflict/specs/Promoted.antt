-- The committed transactions with promoted notes, while they are made.
use Rattle.std.specs.Prelude.{◌≡◌, ◌≤◌, ℕ, List, length, slice_get, Some}
use Rattle.rls_value.specs.declared.object.Object.{Object}
use Rattle.rls_siread.specs.Covering.{covered_of}
use Rattle.rls_conflict.specs.declared.committed.Committed.{Committed}
use Rattle.rls_conflict.specs.Transactions.{Transaction, at}
use Rattle.rls_conflict.specs.Commits.{AreReadBy, AreReadersOf}

-- the objects that its changes cover
abbrev pub covered_in : Committed → List Object
covered_in it = it.covered

-- the transactions stand for the committed ones: they began before their places, and the same objects are covered
pub record AreTold (committed : List Committed) (transactions : List Transaction) : Type 0 where
  pub size : length transactions ≡ length committed
  pub covered : (place : ℕ) (it : Committed) → slice_get committed place ≡ Some it → it.covered ≡ covered_of (at transactions place).changes
  pub began : (place : ℕ) → (at transactions place).snap ≤ place

-- it is kept of the transaction at the place, with its rw-antidependencies with those before it
pub record IsEntryOf (transactions : List Transaction) (place : ℕ) (it : Committed) : Type 0 where
  pub transaction : it.transaction ≡ at transactions place
  pub covered : it.covered ≡ covered_of it.transaction.changes
  pub read : AreReadBy transactions place it.read.items
  pub readers : AreReadersOf transactions place it.readers.items

-- all of them are so
abbrev pub AreEntriesOf : List Transaction → List Committed → Type 0
AreEntriesOf transactions entries = (place : ℕ) (it : Committed) → slice_get entries place ≡ Some it → IsEntryOf transactions place it
