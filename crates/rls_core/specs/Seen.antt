-- What a core is seen as, and the world that it is.
use Rattle.std.specs.Prelude.{◌≡◌, ℕ, List, [], length, Option}
use Rattle.rls_catalog.specs.State.{State}
use Rattle.rls_history.specs.Structures.{is_dangerous}
use Rattle.rls_conflict.specs.rls_siread.specs.Promotion.{noted_with}
use Rattle.rls_conflict.specs.Begun.{at_number}
use Rattle.rls_core.specs.Records.{Record, state_after}
use Rattle.rls_core.specs.Events.{Event, Running, World, Rules, happens, after}

-- the records of committed transactions in the order of their commits, those that run in the order of their numbers, and the next
-- number
pub record Seen : Type 0 where
  pub committed : List Record
  pub running : List (ℕ × Running)
  pub next : ℕ

-- no transactions
abbrev pub nothing_yet : Seen
nothing_yet = record { committed = []; running = []; next = 1 }

-- the one that runs under the number
abbrev pub runs_at : Seen → ℕ → Option Running
runs_at seen txn = at_number txn seen.running

-- the world that it is
abbrev pub world_of : Seen → World
world_of seen = record { committed = seen.committed; running = λ txn. at_number txn seen.running; next = seen.next }

-- the state after all commits
abbrev pub newest_state : List Record → State
newest_state committed = state_after committed (length committed)

-- all that is read is noted, with the rows of a table in place of more than 256 keys of it; a commit is refused where the
-- transaction is in a dangerous structure
abbrev pub core_rules : Rules
core_rules = record { note = noted_with 256; test = is_dangerous }

-- the event happened
abbrev pub Happens : Event → Seen → Seen → Type 0
Happens event old new = world_of new ≡ happens core_rules (world_of old) event
