-- What stands in a core.
use Rattle.std.specs.Prelude.{◌≡◌, ℕ, suc, ◌+◌, ◌<◌, ◌≤◌, List, length, map, Some, true, get_or}
use Rattle.std.specs.Option.{is_some}
use Rattle.rls_catalog.specs.State.{State}
use Rattle.rls_catalog.specs.Changed.{opening, changed_all}
use Rattle.rls_catalog.specs.SoundRows.{RowsAreSound}
use Rattle.rls_rows.specs.States.{newest_of}
use Rattle.rls_conflict.specs.Transactions.{Transaction}
use Rattle.rls_conflict.specs.Begun.{at_number}
use Rattle.rls_conflict.specs.Known.{Known, is_running, running_of, running_at}
use Rattle.rls_core.specs.Records.{Record, record_at, transaction_of, state_after}
use Rattle.rls_core.specs.Posts.{record_of}
use Rattle.rls_core.specs.Events.{Event, Running, seen_by, after}
use Rattle.rls_core.specs.Seen.{Seen, world_of, core_rules}
use Rattle.rls_core.specs.Opened.{Opened, joined}

-- one that runs, by its number
abbrev pub joined_in : Known → ℕ × Opened → ℕ × Running
joined_in known entry = (entry.0, joined (running_at known entry.0) entry.1)

-- what is seen of the parts
abbrev pub seen_of : List Record → Known → List (ℕ × Opened) → ℕ → Seen
seen_of committed known opens next = record { committed = committed; running = map (joined_in known) opens; next = next }

-- The world is where a list of events leads. Beside it stand the same transactions as others can conflict with them, the committed
-- states, and the state that each that runs sees, whose rows are sound; and there is room for the commit of each that runs.
pub record IsKept (committed : List Record) (known : Known) (opens : List (ℕ × Opened)) (next : ℕ) (states : List State) (room places : ℕ) : Type 0 where
  pub events : List Event
  pub leads : world_of (seen_of committed known opens next) ≡ after core_rules events
  pub known_is : known.committed ≡ map transaction_of committed
  pub runs : (txn : ℕ) → is_some (at_number txn opens) ≡ is_running known txn
  pub below : (txn : ℕ) → is_some (at_number txn opens) ≡ true → txn < next
  pub over : (i : ℕ) → i < length committed → (record_at committed i).txn < next
  pub count : length states ≡ suc (length committed)
  pub states_are : (n : ℕ) → n ≤ length committed → get_or states n opening ≡ state_after committed n
  pub views_are : (txn : ℕ) (it : Opened) → at_number txn opens ≡ Some it → it.view ≡ seen_by committed (record_of (running_at known txn) it.begin it.posts)
  pub are_sound : (txn : ℕ) (it : Opened) → at_number txn opens ≡ Some it → RowsAreSound it.view
  pub room_left : length committed + length opens ≤ room
  pub places_left : length opens ≤ places

-- one that began after all commits so far sees the newest state with its changes on
abbrev pub SeesNewest : State → List State → Transaction → Type 0
SeesNewest view states txn = txn.snap + 1 ≡ length states → view ≡ changed_all (newest_of states) txn.changes

-- the same transactions are known
pub record IsSame (old new : Known) : Type 0 where
  pub committed : new.committed ≡ old.committed
  pub running : (txn : ℕ) → running_of new txn ≡ running_of old txn
