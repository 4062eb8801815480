-- Worked histories, which compute. Each transaction is told by how many had committed when it began, and the objects that it
-- read and wrote, as numbers; they stand in the order of their commits.
use Rattle.std.specs.Prelude.{ℕ, ◌==◌, ◌-◌, Bool, ◌&&◌, not, List, [], ◌∷◌, length, get_or}
use Rattle.std.specs.List.{list_any}
use Rattle.rls_history.specs.History.{History, any_below}
use Rattle.rls_history.specs.Structures.{is_dangerous}
use Rattle.rls_history.specs.Orders.{is_order}
use Rattle.rls_history.specs.Transactions.{is_empty}

-- one transaction
pub record Worked : Type 0 where
  pub snap : ℕ
  pub reads : List ℕ
  pub writes : List ℕ

-- the one with that commit
abbrev pub worked_at : List Worked → ℕ → Worked
worked_at all i = get_or all i (record { snap = 0; reads = []; writes = [] })

-- their history
abbrev pub worked : List Worked → History
worked all = record {
  count = length all;
  snap = λ i. (worked_at all i).snap;
  has_read = λ i j. list_any (λ (read : ℕ). list_any (λ (written : ℕ). read == written) (worked_at all j).writes) (worked_at all i).reads;
  has_written = λ i. not (is_empty (worked_at all i).writes);
}

-- no commit is refused, and they may be run one after another in this order
abbrev pub all_commit_as : List Worked → List ℕ → Bool
all_commit_as all order = not (any_below (is_dangerous (worked all)) (length all)) && is_order (worked all) order

-- the last commit alone is refused
abbrev pub last_is_refused : List Worked → Bool
last_is_refused all = is_dangerous (worked all) (length all - 1) && not (any_below (is_dangerous (worked all)) (length all - 1))

-- A clearance is taken away and a secret written while a reader runs that had the clearance (PostgreSQL manual, "Row
-- Security Policies", the race between a policy's subquery and an update). Object 0 is the clearance, 1 the secret: the writer
-- commits, then the reader, which keeps its snapshot.
abbrev pub clearance_race : List Worked
clearance_race = record { snap = 0; reads = []; writes = 0 ∷ 1 ∷ [] } ∷ record { snap = 0; reads = 0 ∷ 1 ∷ []; writes = [] } ∷ []

-- Write skew: each reads what the other writes (VLDB 2012, 2.1.1, example 1, "Simple Write Skew").
abbrev pub write_skew : List Worked
write_skew = record { snap = 0; reads = 0 ∷ 1 ∷ []; writes = 1 ∷ [] } ∷ record { snap = 0; reads = 0 ∷ 1 ∷ []; writes = 0 ∷ [] } ∷ []

-- Batch processing (VLDB 2012, 2.1.2, example 2). Object 0 is the number of the open batch, 1 the receipts: a batch is closed, a
-- report reads it, and a receipt is added under the number that was read before it was closed.
abbrev pub batch_report : List Worked
batch_report =
    record { snap = 0; reads = 0 ∷ []; writes = 0 ∷ [] }
    ∷ record { snap = 1; reads = 0 ∷ 1 ∷ []; writes = [] }
    ∷ record { snap = 0; reads = 0 ∷ []; writes = 1 ∷ [] }
    ∷ []

-- The same receipt with no report between: the receipt stands before the closing.
abbrev pub batch_without_report : List Worked
batch_without_report = record { snap = 0; reads = 0 ∷ []; writes = 0 ∷ [] } ∷ record { snap = 0; reads = 0 ∷ []; writes = 1 ∷ [] } ∷ []

-- A chain of three that run at once: a reader reads what a pivot writes, which reads what a third writes.
abbrev pub reader : Worked
reader = record { snap = 0; reads = 0 ∷ []; writes = [] }

-- one that writes too, something that nobody reads
abbrev pub writing_reader : Worked
writing_reader = record { snap = 0; reads = 0 ∷ []; writes = 2 ∷ [] }

-- it reads what the third writes, and writes what the reader reads
abbrev pub pivot : Worked
pivot = record { snap = 0; reads = 1 ∷ []; writes = 0 ∷ [] }

-- it writes what the pivot reads
abbrev pub third : Worked
third = record { snap = 0; reads = 1 ∷ []; writes = 1 ∷ [] }
