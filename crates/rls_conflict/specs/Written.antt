-- First updater wins, on objects: who would write an object that a concurrent transaction wrote can't be serialized (PostgreSQL
-- manual, 13.2.2, "Repeatable Read Isolation Level").
use Rattle.std.specs.Prelude.{◌≡◌, ℕ, List, [], ◌++◌, Bool, true, false, not, ◌&&◌, nat_eq, filter, drop}
use Rattle.std.specs.List.{list_any}
use Rattle.rls_value.specs.declared.object.Object.{Object}
use Rattle.rls_value.specs.declared.object.Object.TheVariants.{Key}
use Rattle.rls_value.specs.declared.refusal.Refusal.{Refusal}
use Rattle.rls_value.specs.declared.refusal.Refusal.TheVariants.{NoMemory, Serial}
use Rattle.rls_value.specs.declared.refusal.Cause.TheVariants.{Written}
use Rattle.rls_catalog.specs.declared.change.Change.{Change}
use Rattle.rls_catalog.specs.Writes.{writes, is_written}
use Rattle.rls_conflict.specs.Transactions.{Transaction}
use Rattle.rls_conflict.specs.Known.{Known, running_at}

-- what rows of a table without a primary key have in place of a key
abbrev pub is_no_key : Object → Bool
is_no_key (Key table []) = true
is_no_key _ = false

-- the change writes the object. Rows without a key have none in common.
abbrev pub is_updated : Object → Change → Bool
is_updated object change = not (is_no_key object) && is_written object change

-- the two changes write an object in common
abbrev pub write_one_object : Change → Change → Bool
write_one_object change other = list_any (λ object. is_updated object other) (writes change)

-- one of the changes writes the object
abbrev pub writes_object : List Change → Object → Bool
writes_object changes object = list_any (is_updated object) changes

-- an object that both lists of changes write
abbrev pub WriteCommonObject : List Change → List Change → Type 0
WriteCommonObject changes others = (object : Object) × (writes_object changes object ≡ true) × (writes_object others object ≡ true)

-- whether there is one
abbrev pub write_common : List Change → List Change → Bool
write_common changes others = list_any (λ change. list_any (write_one_object change) others) changes

-- those concurrent with a running transaction: the others that run, and those that committed since it began
abbrev pub concurrent_with : Known → ℕ → List Transaction
concurrent_with known txn = filter (λ other. not (nat_eq txn other.number)) known.running ++ drop (running_at known txn).snap known.committed

-- one of the transactions has that number and wrote the object
abbrev pub is_writer : List Transaction → Object → ℕ → Bool
is_writer others object number = list_any (λ other. nat_eq number other.number && writes_object other.changes object) others

-- the changes write the object, and the concurrent transaction of that number wrote it first
pub record IsWritten (known : Known) (txn : ℕ) (changes : List Change) (object : Object) (number : ℕ) : Type 0 where
  pub written : writes_object changes object ≡ true
  pub by_other : is_writer (concurrent_with known txn) object number ≡ true

-- no concurrent transaction wrote an object that the changes write
abbrev pub IsFree : Known → ℕ → List Change → Type 0
IsFree known txn changes = (object : Object) → writes_object changes object ≡ true → list_any (λ other. writes_object other.changes object) (concurrent_with known txn) ≡ false

-- what changes are refused with: want of memory, or an object that a concurrent transaction wrote
abbrev pub IsRefusedBy : Known → ℕ → List Change → Refusal → Type 0
IsRefusedBy known txn changes NoMemory = Unit {0}
IsRefusedBy known txn changes (Serial (Written object number)) = IsWritten known txn changes object number
IsRefusedBy known txn changes _ = ⊥
