-- What is known of transactions: those that committed, and those that run; and what calls make of it.
use Rattle.std.specs.Prelude.{◌≡◌, ◌≤◌, ℕ, List, [], ◌∷◌, ◌++◌, Bool, false, nat_eq, length, map, Option, Some, None, unwrap_or, if◌then◌else◌}
use Rattle.std.specs.List.{find, list_any, All}
use Rattle.std.specs.Option.{is_some, option_map}
use Rattle.rls_value.specs.declared.object.Object.{Object}
use Rattle.rls_catalog.specs.declared.change.Change.{Change}
use Rattle.rls_siread.specs.Promotion.{promoted, noted_with}
use Rattle.rls_conflict.specs.Transactions.{Transaction, nobody, at}

-- the committed ones in the order of their commits, and those that run
pub record Known : Type 0 where
  pub committed : List Transaction
  pub running : List Transaction

-- nothing is known
abbrev pub nothing_known : Known
nothing_known = record { committed = []; running = [] }

-- the transaction has that number
abbrev pub has_number : ℕ → Transaction → Bool
has_number number txn = nat_eq number txn.number

-- the one that runs under the number, if there is one
abbrev pub running_of : Known → ℕ → Option Transaction
running_of known txn = find (has_number txn) known.running

-- one runs under the number
abbrev pub is_running : Known → ℕ → Bool
is_running known txn = is_some (running_of known txn)

-- the one that runs under the number
abbrev pub running_at : Known → ℕ → Transaction
running_at known txn = unwrap_or (running_of known txn) nobody

-- the committed ones, as though the one of that number committed now
abbrev pub with_commit_of : Known → ℕ → List Transaction
with_commit_of known txn = known.committed ++ running_at known txn ∷ []

-- ---- what holds of all that is known

-- no transaction has that number, committed or running
pub record IsNew (known : Known) (txn : ℕ) : Type 0 where
  pub not_running : is_running known txn ≡ false
  pub not_committed : list_any (has_number txn) known.committed ≡ false

-- each that runs is the one that its number finds
abbrev pub AreFound : Known → Type 0
AreFound known = All (λ txn. running_of known txn.number ≡ Some txn) known.running

-- each that runs began after commits that there were, each that committed before its own commit
pub record HaveBegun (known : Known) : Type 0 where
  pub running : All (λ txn. txn.snap ≤ length known.committed) known.running
  pub committed : (place : ℕ) → (at known.committed place).snap ≤ place

-- ---- what calls leave

-- what runs under the number is this now, or nothing; all else is as it was
pub record Becomes (txn : ℕ) (now : Option Transaction) (old new : Known) : Type 0 where
  pub committed : new.committed ≡ old.committed
  pub running : (other : ℕ) → running_of new other ≡ (if nat_eq txn other then now else running_of old other)

-- one that begins after so many commits
abbrev pub beginning : ℕ → ℕ → Transaction
beginning txn snap = record { number = txn; snap = snap; noted = []; changes = [] }

-- one that has read and changed more, with notes promoted beyond the limit
abbrev pub posted : ℕ → List Object → List Change → Transaction → Transaction
posted limit reads changes txn = record { number = txn.number; snap = txn.snap; noted = noted_with limit txn.noted reads; changes = txn.changes ++ changes }

-- the one that ran under the number has committed, as the last; all else is as it was
pub record HasCommitted (txn : ℕ) (old new : Known) : Type 0 where
  pub committed : new.committed ≡ with_commit_of old txn
  pub running : (other : ℕ) → running_of new other ≡ (if nat_eq txn other then None else running_of old other)

-- a transaction with promoted notes
abbrev pub with_promoted : ℕ → Transaction → Transaction
with_promoted limit txn = record { number = txn.number; snap = txn.snap; noted = promoted limit txn.noted; changes = txn.changes }

-- the notes of all are promoted, of the committed ones too
pub record ArePromoted (limit : ℕ) (old new : Known) : Type 0 where
  pub committed : new.committed ≡ map (with_promoted limit) old.committed
  pub running : (txn : ℕ) → running_of new txn ≡ option_map (with_promoted limit) (running_of old txn)
