-- What else holds after every list of events: all that the headline stands on.
use Rattle.std.specs.Prelude.{ℕ, ◌≡◌, ◌<◌, ◌≤◌, true, Some, None, List, length}
use Rattle.rls_history.specs.History.{concurrent}
use Rattle.rls_history.specs.Structures.{NoStructureBelow}
use Rattle.rls_history.specs.Orders.{IsHistory}
use Rattle.rls_history.specs.States.{States, IsAmong, Fits, Apart}
use Rattle.rls_history.specs.Statements.{Statements, replies_alone, changes_alone, reads_alone, context_alone}
use Rattle.rls_history.specs.Explained.{Entry, entry_at, history_by, state_at}
use Rattle.rls_history.specs.Worlds.{Running, World, Setup, sees}
use Rattle.rls_history.specs.Lawful.{Conditions, LiesWithin}

-- the entry has what its statements come to alone on its snapshot: replies, and changes that fit there; and each object that
-- they read there lies within one that is noted
pub record IsRecorded {s : States} (m : Statements s) (opening : s.State) (committed : List (Entry m)) (entry : Entry m) : Type 0 where
  pub replies : entry.replies ≡ replies_alone m entry.start entry.statements (state_at m opening committed entry.snap)
  pub changes : entry.changes ≡ changes_alone m entry.start entry.statements (state_at m opening committed entry.snap)
  pub fits : Fits s entry.changes (state_at m opening committed entry.snap)
  pub noted : (o : s.Object) → IsAmong o (reads_alone m entry.start entry.statements (state_at m opening committed entry.snap)) → LiesWithin s o entry.noted

-- the committed transactions: each began before it committed, and concurrent ones write no common object
pub record AreCommitted {s : States} (m : Statements s) (opening : s.State) (committed : List (Entry m)) : Type 0 where
  pub began : (i : ℕ) → i < length committed → (entry_at m committed i).snap ≤ i
  pub recorded : (i : ℕ) → i < length committed → IsRecorded m opening committed (entry_at m committed i)
  pub apart : (i j : ℕ) → i < length committed → j < length committed → concurrent (history_by m committed) i j ≡ true
      → Apart s (entry_at m committed i).changes (entry_at m committed j).changes

-- the committed states: sound, with no number that is still to come, and each content follows the earlier ones
pub record AreStates {s : States} {m : Statements s} (c : Conditions m) (opening : s.State) (committed : List (Entry m)) (next : ℕ) : Type 0 where
  pub sound : (i : ℕ) → i ≤ length committed → c.IsSound (state_at m opening committed i)
  pub free : (txn : ℕ) → next ≤ txn → c.IsFree txn (state_at m opening committed (length committed))
  pub follow : (place : s.Place) (i : ℕ) → i ≤ length committed
      → c.Follows place (s.look (state_at m opening committed i) place) (s.look (state_at m opening committed (length committed)) place)

-- a transaction that runs under that number: the state that it sees is sound, it can go on from there, and it writes no object that one
-- committed since has written
pub record IsRunning {s : States} {m : Statements s} (c : Conditions m) (setup : Setup m) (committed : List (Entry m)) (next txn : ℕ) (it : Running m) : Type 0 where
  pub began : it.entry.snap ≤ length committed
  pub recorded : IsRecorded m setup.opening committed it.entry
  pub now_is : it.now ≡ context_alone m it.entry.start it.entry.statements (state_at m setup.opening committed it.entry.snap)
  pub apart : (i : ℕ) → i < length committed → it.entry.snap ≤ i → Apart s (entry_at m committed i).changes it.entry.changes
  pub sound : c.IsSound (sees setup committed it.entry)
  pub goes_on : c.CanGoOn it.now (sees setup committed it.entry)
  pub number : c.number_of it.now ≡ txn
  pub free : (later : ℕ) → next ≤ later → c.IsFree later (sees setup committed it.entry)
  pub follows : (place : s.Place) → c.Follows place (s.look (state_at m setup.opening committed it.entry.snap) place) (s.look (sees setup committed it.entry) place)

-- what holds of the committed transactions, of their states, and of those that run
pub record Holds {s : States} {m : Statements s} (c : Conditions m) (setup : Setup m) (w : World m) : Type 0 where
  pub committed : AreCommitted m setup.opening w.committed
  pub no_structure : NoStructureBelow (history_by m w.committed) (length w.committed)
  pub states : AreStates c setup.opening w.committed w.next
  pub below : (txn : ℕ) (it : Running m) → w.running txn ≡ Some it → txn < w.next
  pub running : (txn : ℕ) (it : Running m) → w.running txn ≡ Some it → IsRunning c setup w.committed w.next txn it
  -- those that run write no common object
  pub apart : (txn other : ℕ) (one two : Running m) → (txn ≡ other → ⊥) → w.running txn ≡ Some one → w.running other ≡ Some two → Apart s one.entry.changes two.entry.changes

-- the entry began as that of the transaction of the number
abbrev pub BeganAs : {s : States} → (m : Statements s) → ℕ → Entry m → Type 0
BeganAs m txn entry = (start : m.Start) × (entry.start ≡ m.begin txn start)

-- each began as the transaction of its number, and no two have one number
pub record AreNumbered {s : States} {m : Statements s} (number_of : m.Context → ℕ) (w : World m) : Type 0 where
  pub below : (txn : ℕ) (it : Running m) → w.running txn ≡ Some it → txn < w.next
  pub running : (txn : ℕ) (it : Running m) → w.running txn ≡ Some it → BeganAs m txn it.entry
  pub committed_below : (i : ℕ) → i < length w.committed → number_of (entry_at m w.committed i).start < w.next
  pub committed : (i : ℕ) → i < length w.committed → BeganAs m (number_of (entry_at m w.committed i).start) (entry_at m w.committed i)
  pub over : (i : ℕ) → i < length w.committed → w.running (number_of (entry_at m w.committed i).start) ≡ None
  pub differ : (i j : ℕ) → i < length w.committed → j < length w.committed → number_of (entry_at m w.committed i).start ≡ number_of (entry_at m w.committed j).start → i ≡ j

-- what is asked for an order to be made of the committed transactions
abbrev pub CanBeOrdered : {s : States} → {m : Statements s} → Setup m → World m → Type 0
CanBeOrdered {s} {m} setup w = IsHistory (history_by m w.committed) × NoStructureBelow (history_by m w.committed) (history_by m w.committed).count

-- the transactions have numbers of their own
abbrev pub AllAreNumbered : {s : States} → {m : Statements s} → Conditions m → Setup m → World m → Type 0
AllAreNumbered {s} {m} c setup w = AreNumbered c.number_of w
