-- The numbers of new rows: each statement of a transaction numbers its new rows on, and its changes tell how far.
use Rattle.std.specs.Prelude.{◌≡◌, ℕ, suc, ◌≤◌, List, [], ◌∷◌, None, Bool, false, ◌+◌, if◌then◌else◌, is_none, filter, length}
use Rattle.rls_value.specs.declared.row.RowId.{RowId}
use Rattle.rls_guard.specs.rls_catalog.specs.declared.change.Change.{Change}
use Rattle.rls_guard.specs.rls_catalog.specs.declared.change.Change.TheVariants as c
use Rattle.rls_guard.specs.rls_catalog.specs.State.{State}
use Rattle.rls_dml.specs.Fitting.{NumbersFree}

-- the change puts a row where none was
abbrev pub is_new_row : Change → Bool
is_new_row (c.Row change) = is_none change.before
is_new_row _ = false

-- how many do
abbrev pub new_rows : List Change → ℕ
new_rows changes = length (filter is_new_row changes)

-- the number of the transaction's next new row after the changes: one further for each row that wasn't there before
abbrev pub next_row : ℕ → List Change → ℕ
next_row next changes = next + new_rows changes

-- a transaction inserts at most 4294967295 rows: its next number stays within them
abbrev pub InRange : ℕ → List Change → Type 0
InRange next changes = next ≤ 4294967295 → next_row next changes ≤ 4294967295

-- a new row has this number
abbrev pub NewAt : RowId → Change → Type 0
NewAt id (c.Row change) = change.before ≡ None → change.id ≡ id
NewAt id _ = Unit {0}

-- new rows have the numbers of the transaction from this one on, one after another
abbrev pub NumberOn : ℕ → ℕ → List Change → Type 0
NumberOn txn next [] = Unit {0}
NumberOn txn next (change ∷ changes) = NewAt (record { txn = txn; n = next }) change × NumberOn txn (if is_new_row change then suc next else next) changes

-- no row of any table has a number of the transaction from this one on
abbrev pub AllFree : State → ℕ → ℕ → Type 0
AllFree s txn next = (table : List ℕ) → NumbersFree s table txn next
