-- Transactions that run beside each other, each on the snapshot of its beginning.
use Rattle.std.specs.Prelude.{ℕ, ◌≡◌, ◌<◌, ◌≤◌, ◌==◌, leb, Bool, ◌&&◌, ◌||◌, not, true, Option, Some, None, List, [], length, ◌⊎◌}
use Rattle.std.specs.List.{list_any}
use Rattle.rls_history.specs.History.{History, any_below}
use Rattle.rls_history.specs.States.{States, put_all, IsAmong}
use Rattle.rls_history.specs.Statements.{Statements}
use Rattle.rls_history.specs.Explained.{Entry, entry_at, state_at}

-- what may happen: a transaction begins; one posts a statement, commits or rolls back, each by its number
pub data Event (Start Statement : Type 0) : Type 0 where
  Begin : Start → Event Start Statement
  Post : ℕ → Statement → Event Start Statement
  Commit : ℕ → Event Start Statement
  Rollback : ℕ → Event Start Statement

-- a transaction that runs, and the context that it goes on with
pub record Running {s : States} (m : Statements s) : Type 0 where
  pub entry : Entry m
  pub now : m.Context

-- the committed transactions in the order of their commits, those that run by their numbers, and the next number
pub record World {s : States} (m : Statements s) : Type 0 where
  pub committed : List (Entry m)
  pub running : ℕ → Option (Running m)
  pub next : ℕ

-- the opening state; what is kept of the objects noted so far and those read now; and the test at a commit, given the history
-- with the transaction behind it and the transaction's place there
pub record Setup {s : States} (m : Statements s) : Type 0 where
  pub opening : s.State
  pub note : List s.Object → List s.Object → List s.Object
  pub test : History → ℕ → Bool

-- the state that a transaction sees: its snapshot under its own changes
abbrev pub sees : {s : States} → {m : Statements s} → Setup m → List (Entry m) → Entry m → s.State
sees {s} {m} setup committed entry = put_all s entry.changes (state_at m setup.opening committed entry.snap)

-- a change of the one list and one of the other write an object
abbrev pub WriteCommon : (s : States) → List s.Change → List s.Change → Type 0
WriteCommon s changes others = (change : s.Change) × (other : s.Change) × IsAmong change changes × IsAmong other others × (s.share change other ≡ true)

-- whether a change of the one list and one of the other write an object
abbrev pub shares : (s : States) → List s.Change → List s.Change → Bool
shares s changes others = list_any (λ (change : s.Change). list_any (s.share change) others) changes

-- the changes of a transaction that runs; none where none runs
abbrev pub changes_of : {s : States} → (m : Statements s) → Option (Running m) → List s.Change
changes_of m None = []
changes_of m (Some it) = it.entry.changes

-- A concurrent transaction, one that committed since the snapshot or another that runs, wrote an object that these changes write.
-- (Where the other one runs, PostgreSQL lets the second writer wait, and refuses it once the first has committed: manual,
-- "Repeatable Read Isolation Level". Here nobody waits.)
abbrev pub IsTaken : {s : States} → {m : Statements s} → World m → ℕ → ℕ → List s.Change → Type 0
IsTaken {s} {m} w txn snap changes =
    ((i : ℕ) × (snap ≤ i) × (i < length w.committed) × WriteCommon s changes (entry_at m w.committed i).changes)
    ⊎ ((other : ℕ) × (other < w.next) × (other ≡ txn → ⊥) × WriteCommon s changes (changes_of m (w.running other)))

-- the test at a post: whether a concurrent transaction wrote an object that these changes write
abbrev pub is_taken : {s : States} → {m : Statements s} → World m → ℕ → ℕ → List s.Change → Bool
is_taken {s} {m} w txn snap changes =
    any_below (λ (i : ℕ). leb snap i && shares s changes (entry_at m w.committed i).changes) (length w.committed)
    || any_below (λ (i : ℕ). not (i == txn) && shares s changes (changes_of m (w.running i))) w.next
