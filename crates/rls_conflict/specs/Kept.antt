-- What stands in the record of transactions: those that committed with their rw-antidependencies, those that run, and the
-- indexes of who read and who wrote an object, which know only those that a running transaction can meet.
use Rattle.std.specs.Prelude.{◌≡◌, ◌≤◌, ◌<◌, ◌+◌, ◌⊎◌, ℕ, suc, List, true, false, length, map, slice_get, Some, None}
use Rattle.std.specs.Option.{is_some}
use Rattle.rls_value.specs.declared.object.Object.{Object}
use Rattle.rls_catalog.specs.Bases.{covers_any}
use Rattle.rls_source.specs.Footprints.{is_among}
use Rattle.rls_siread.specs.Covering.{covered_of}
use Rattle.rls_siread.specs.Locks.{Locks, noted_by, commit_of, has_notes, is_number_in}
use Rattle.rls_siread.specs.Index.{HolderList, held_at}
use Rattle.rls_conflict.specs.declared.committed.Committed.{Committed}
use Rattle.rls_conflict.specs.Transactions.{Transaction}
use Rattle.rls_conflict.specs.Begun.{Begun, at_number}
use Rattle.rls_conflict.specs.Commits.{AreReadBy, AreReadersOf}
use Rattle.rls_conflict.specs.Known.{Known}

-- a committed transaction
abbrev pub committed_seen : Committed → Transaction
committed_seen it = it.transaction

-- the committed ones
abbrev pub all_committed : List Committed → List Transaction
all_committed committed = map committed_seen committed

-- a running transaction, which has noted what the read locks say
abbrev pub running_seen : Locks → ℕ × Begun → Transaction
running_seen locks entry = record { number = entry.0; snap = entry.1.snap; noted = noted_by locks entry.0; changes = entry.1.changes }

-- what is seen of it all
abbrev pub known_by : List Committed → List (ℕ × Begun) → Locks → Known
known_by committed running locks = record { committed = all_committed committed; running = map (running_seen locks) running }

-- it began before it committed, its covered objects stand beside its changes, and its rw-antidependencies with those that
-- committed before it are kept
pub record IsEntry (committed : List Committed) (place : ℕ) (it : Committed) : Type 0 where
  pub began : it.transaction.snap ≤ place
  pub covered : it.covered ≡ covered_of it.transaction.changes
  pub read : AreReadBy (all_committed committed) place it.read.items
  pub readers : AreReadersOf (all_committed committed) place it.readers.items

-- all of them are so
abbrev pub AreEntries : List Committed → Type 0
AreEntries committed = (place : ℕ) (it : Committed) → slice_get committed place ≡ Some it → IsEntry committed place it

-- one of that number committed, at the floor or later
pub record IsRecent (committed : List Committed) (floor txn : ℕ) : Type 0 where
  pub place : ℕ
  pub it : Committed
  pub recent : floor ≤ place
  pub there : slice_get committed place ≡ Some it
  pub number : it.transaction.number ≡ txn

-- no two of all have one number
pub record NumbersDiffer (committed : List Committed) (running : List (ℕ × Begun)) : Type 0 where
  pub places : (i j : ℕ) (one other : Committed) → slice_get committed i ≡ Some one → slice_get committed j ≡ Some other → one.transaction.number ≡ other.transaction.number → i ≡ j
  pub over : (i : ℕ) (one : Committed) → slice_get committed i ≡ Some one → at_number one.transaction.number running ≡ None

-- What the indexes know: of each that runs, that it didn't commit, and the objects that its changes cover; of each that committed at
-- the floor or later its place, its notes, and the objects that its changes cover; and of nobody else anything. (What one that
-- runs has noted is what the read locks say.)
pub record IsIndexed (committed : List Committed) (running : List (ℕ × Begun)) (locks : Locks) (writers : List (Object × HolderList)) (floor : ℕ) : Type 0 where
  pub run : (txn : ℕ) (it : Begun) → at_number txn running ≡ Some it → (has_notes locks txn ≡ true) × (commit_of locks txn ≡ None)
  pub written : (txn : ℕ) (it : Begun) → at_number txn running ≡ Some it → (object : Object) → is_number_in (held_at writers object) txn ≡ covers_any object it.changes
  pub marked : (place : ℕ) (it : Committed) → slice_get committed place ≡ Some it → floor ≤ place → commit_of locks it.transaction.number ≡ Some (suc place)
  pub noted : (place : ℕ) (it : Committed) → slice_get committed place ≡ Some it → floor ≤ place → noted_by locks it.transaction.number ≡ it.transaction.noted
  pub covered : (place : ℕ) (it : Committed) → slice_get committed place ≡ Some it → floor ≤ place → (object : Object) → is_number_in (held_at writers object) it.transaction.number ≡ is_among it.covered object
  pub no_reader : (txn : ℕ) → has_notes locks txn ≡ true → (is_some (at_number txn running) ≡ true) ⊎ IsRecent committed floor txn
  pub no_writer : (txn : ℕ) (object : Object) → is_number_in (held_at writers object) txn ≡ true → (is_some (at_number txn running) ≡ true) ⊎ IsRecent committed floor txn

-- what stands in the record: the entries, the beginnings of those that run at the floor or later, the indexes, and room for all
-- commits
pub record IsWhole (committed : List Committed) (len capacity : ℕ) (running : List (ℕ × Begun)) (locks : Locks) (writers : List (Object × HolderList)) (floor : ℕ) : Type 0 where
  pub entries : AreEntries committed
  pub differ : NumbersDiffer committed running
  pub snaps : (txn : ℕ) (it : Begun) → at_number txn running ≡ Some it → (floor ≤ it.snap) × (it.snap ≤ length committed)
  pub floor_within : floor ≤ length committed
  pub indexed : IsIndexed committed running locks writers floor
  pub room : len + length running ≤ capacity

-- those that committed at the places from the one up to the other hold no object that they covered; others hold what they held,
-- and nobody holds more
pub record IsReleased (committed : List Committed) (from to : ℕ) (old new : List (Object × HolderList)) : Type 0 where
  pub gone : (place : ℕ) (it : Committed) → slice_get committed place ≡ Some it → from ≤ place → place < to → (object : Object) → is_among it.covered object ≡ true → is_number_in (held_at new object) it.transaction.number ≡ false
  pub kept : (txn : ℕ) → ((place : ℕ) (it : Committed) → slice_get committed place ≡ Some it → from ≤ place → place < to → it.transaction.number ≡ txn → ⊥) → (object : Object) → is_number_in (held_at new object) txn ≡ is_number_in (held_at old object) txn
  pub fewer : (txn : ℕ) (object : Object) → is_number_in (held_at new object) txn ≡ true → is_number_in (held_at old object) txn ≡ true
