-- What lies under the lock, whenever it is got.
use Rattle.std.specs.Prelude.{◌≡◌, ℕ, ◌+◌, ◌≤◌, List, length, Option, Some, None}
use Rattle.rls_core.specs.rls_conflict.specs.Begun.{at_number}
use Rattle.rls_core.specs.Records.{Record}
use Rattle.rls_core.specs.Events.{Running}
use Rattle.rls_core.specs.Seen.{Seen, runs_at}
use Rattle.boxcar.specs.Table.{Shelves, Where, Shows}
use Rattle.rls_engine.specs.declared.commit.Commit.{Commit}
use Rattle.rls_engine.specs.Stands.{Stand, stand_of}
use Rattle.rls_engine.specs.Places.{ArePlaced}

-- the token's step leads to what the one that runs stands on
pub record StandsAt (steps : Shelves) (committed : List Record) (it : Running) (t : Where Stand) : Type 0 where
  pub shows : Shows steps t
  pub leads : t.value ≡ stand_of committed it
  pub within : it.so_far.snap ≤ length committed

-- there is such a token
abbrev pub HasToken : Shelves → List Record → Running → Option (Where Stand) → Type 0
HasToken steps committed it None = ⊥
HasToken steps committed it (Some t) = StandsAt steps committed it t

-- there is one for each that runs, under its number
abbrev pub HaveTokens : Shelves → Seen → List (ℕ × Where Stand) → Type 0
HaveTokens steps seen tokens = (txn : ℕ) (it : Running) → runs_at seen txn ≡ Some it → HasToken steps seen.committed it (at_number txn tokens)

-- The ledger's total is the number of commits: one of its parts, with an amount of one, went into each receipt, and all others lie
-- here. Each record has its place, and each transaction that runs has the token of its last step.
pub record IsKept (commits steps : Shelves) (seen : Seen) (total parts amount : ℕ) (tokens : List (Where Commit)) (running : List (ℕ × Where Stand)) : Type 0 where
  pub counted : total ≡ length seen.committed
  pub parted : parts + total ≡ 18446744073709551615
  pub none_left : amount ≡ 0
  pub placed : ArePlaced commits seen.committed tokens
  pub stand : HaveTokens steps seen running
