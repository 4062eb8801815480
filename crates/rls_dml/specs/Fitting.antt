-- What the changes of a statement have to do with the state that it is run in, and the places that they overwrite.
use Rattle.std.specs.Prelude.{◌≡◌, ℕ, zero, suc, ◌≤◌, List, [], ◌∷◌, None, map}
use Rattle.rls_value.specs.declared.row.RowId.{RowId}
use Rattle.rls_guard.specs.rls_catalog.specs.declared.change.Change.{Change}
use Rattle.rls_guard.specs.rls_catalog.specs.State.{State}
use Rattle.rls_guard.specs.rls_catalog.specs.Bases.{Row, base_of, row_at}
pub use Rattle.rls_guard.specs.Keeping.{IfDone}

-- no row of the table has a number of the transaction from this one on
abbrev pub NumbersFree : State → List ℕ → ℕ → ℕ → Type 0
NumbersFree s table txn next = (n : ℕ) → next ≤ n → row_at s table (record { txn = txn; n = n }) ≡ None

-- so many numbers of the transaction, from this one on
abbrev pub numbers_from : ℕ → ℕ → ℕ → List RowId
numbers_from txn next zero = []
numbers_from txn next (suc count) = record { txn = txn; n = next } ∷ numbers_from txn (suc next) count

-- the changes overwrite the rows of the table that have these numbers, one after another, and nothing else
abbrev pub Overwrite : List ℕ → List RowId → List Change → Type 0
Overwrite table numbers changes = map base_of changes ≡ map (Row table) numbers
