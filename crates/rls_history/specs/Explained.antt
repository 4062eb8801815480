-- What is recorded of transactions, and when an order explains it.
use Rattle.std.specs.Prelude.{◌≡◌, ℕ, List, [], ◌∷◌, length, get_or, map}
use Rattle.rls_history.specs.History.{History}
use Rattle.rls_history.specs.States.{States, Agree, IsAmong, put_all}
use Rattle.rls_history.specs.Transactions.{Transaction, history_of, state_after}
use Rattle.rls_history.specs.Statements.{Statements, replies_alone, changes_alone}

-- what is recorded of a transaction: how many had committed when it began, in which context it began, its statements with the replies that
-- were given, its changes, and the objects that it noted as read
pub record Entry {s : States} (m : Statements s) : Type 0 where
  pub snap : ℕ
  pub start : m.Context
  pub statements : List m.Statement
  pub replies : List m.Reply
  pub changes : List s.Change
  pub noted : List s.Object

-- the entry of a transaction that begins in that context, after so many commits
abbrev pub new_entry : {s : States} → (m : Statements s) → ℕ → m.Context → Entry m
new_entry m snap start = record { snap = snap; start = start; statements = []; replies = []; changes = []; noted = [] }

-- the entry with that commit, counted from 0
abbrev pub entry_at : {s : States} → (m : Statements s) → List (Entry m) → ℕ → Entry m
entry_at m entries i = get_or entries i (new_entry m 0 m.no_context)

-- what of an entry others can conflict with
abbrev pub transaction_of : {s : States} → (m : Statements s) → Entry m → Transaction s
transaction_of m entry = record { snap = entry.snap; noted = entry.noted; changes = entry.changes }

-- the history of the committed transactions
abbrev pub history_by : {s : States} → (m : Statements s) → List (Entry m) → History
history_by {s} m entries = history_of s (map (transaction_of m) entries)

-- the committed state after so many commits
abbrev pub state_at : {s : States} → (m : Statements s) → s.State → List (Entry m) → ℕ → s.State
state_at {s} m opening entries n = state_after s opening (map (transaction_of m) entries) n

-- Run alone one after another in the order, from the state, the statements of each give the recorded replies and changes,
-- and the end has at each place what the committed state has.
abbrev pub Explains : {s : States} → (m : Statements s) → s.State → List (Entry m) → List ℕ → s.State → Type 0
Explains {s} m opening entries [] state = (place : s.Place) → s.look state place ≡ s.look (state_at m opening entries (length entries)) place
Explains {s} m opening entries (t ∷ ts) state =
    (replies_alone m (entry_at m entries t).start (entry_at m entries t).statements state ≡ (entry_at m entries t).replies)
    × (changes_alone m (entry_at m entries t).start (entry_at m entries t).statements state ≡ (entry_at m entries t).changes)
    × Explains m opening entries ts (put_all s (entry_at m entries t).changes state)

-- At its place in the order each finds, on each object that it noted, what its snapshot had.
abbrev pub FindSnapshots : {s : States} → (m : Statements s) → s.State → List (Entry m) → List ℕ → s.State → Type 0
FindSnapshots {s} m opening entries [] state = Unit {0}
FindSnapshots {s} m opening entries (t ∷ ts) state =
    ((object : s.Object) → IsAmong object (entry_at m entries t).noted → Agree s object state (state_at m opening entries (entry_at m entries t).snap))
    × FindSnapshots m opening entries ts (put_all s (entry_at m entries t).changes state)
