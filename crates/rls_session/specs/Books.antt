-- What was shown, beside the records of a closed engine.
use Rattle.std.specs.Prelude.{◌≡◌, ◌≤◌, ◌-◌, ℕ, suc, List, length, All, Option, Some, option_map, slice_get}
use Rattle.rls_engine.specs.rls_access.specs.Transactions.{first_ctx}
use Rattle.rls_engine.specs.rls_core.specs.Alone.{effects_alone}
use Rattle.rls_engine.specs.rls_core.specs.Records.{Record, state_after}
use Rattle.rls_session.specs.Parts.{Part, Notes, Shown, Tried, part_of, tried_of}

-- the record of its commit is what was shown, and its snapshot has every commit that was shown before the line that began it
pub record IsBooked (history : List Record) (it : Shown) : Type 0 where
  pub recorded : option_map part_of (slice_get history (it.commit - 1)) ≡ Some it.part
  pub heard : it.heard ≤ it.part.snap
  pub later : suc it.part.snap ≤ it.commit

-- no two of them are one commit
abbrev pub DifferInCommit : List Shown → Type 0
DifferInCommit shown = (i j : ℕ) (one other : Shown) → slice_get shown i ≡ Some one → slice_get shown j ≡ Some other → one.commit ≡ other.commit → i ≡ j

-- The records are those of the transactions that were shown as committed, and no others: each has its record, no two the same one,
-- and there are as many records as were shown. So a transaction that was rolled back, or that nobody asked for, has none.
pub record AreTheRecords (history : List Record) (shown : List Shown) : Type 0 where
  pub booked : All (IsBooked history) shown
  pub own : DifferInCommit shown
  pub count : length history ≡ length shown

-- it began after no more commits than there are; and run alone on the state after so many, its statements come to just what it was shown:
-- replies, refusals, decisions and changes
pub record IsTold (history : List Record) (it : Tried) : Type 0 where
  pub began : it.part.snap ≤ length history
  pub alone : effects_alone (first_ctx it.part.txn it.part.begin) it.part.statements (state_after history it.part.snap) ≡ it.part.effects

-- These are the transactions that ended without a commit, in the order in which it was told how they ended, where they are kept. Each was
-- shown just what it comes to alone.
pub record AreTried (history : List Record) (notes : Notes) (tried : List Tried) : Type 0 where
  pub are : tried ≡ tried_of notes.tried
  pub told : All (IsTold history) tried
