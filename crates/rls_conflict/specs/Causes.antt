-- Why a transaction can't be serialized at its commit: a dangerous structure in which it takes part, told with the objects by
-- which it holds (Ports and Grittner, VLDB 2012, 3.2, 3.3 and 4.1).
use Rattle.std.specs.Prelude.{◌≡◌, ℕ, ◌≤◌, List, length, true, ◌⊎◌}
use Rattle.rls_value.specs.declared.object.Object.{Object}
use Rattle.rls_value.specs.declared.refusal.Refusal.{Refusal}
use Rattle.rls_value.specs.declared.refusal.Refusal.TheVariants.{NoMemory, Serial}
use Rattle.rls_value.specs.declared.refusal.Cause.{Cause}
use Rattle.rls_value.specs.declared.refusal.Cause.TheVariants as c
use Rattle.rls_source.specs.Footprints.{is_among}
use Rattle.rls_catalog.specs.Bases.{covers_any}
use Rattle.rls_history.specs.Structures.{IsStructure, IsInStructure}
use Rattle.rls_conflict.specs.Transactions.{Transaction, at, history_of}
use Rattle.rls_conflict.specs.Known.{Known, with_commit_of}

-- the reader noted the object, and a change of the writer covers it
pub record IsReadBy (object : Object) (reader writer : Transaction) : Type 0 where
  pub noted : is_among reader.noted object ≡ true
  pub written : covers_any object writer.changes ≡ true

-- the cause names a structure in which the transaction at the place, the last to commit, takes part, and the objects by which
-- it holds
pub record IsCauseOf (transactions : List Transaction) (place : ℕ) (cause : Cause) : Type 0 where
  pub first : ℕ
  pub pivot : ℕ
  pub last : ℕ
  pub one : Object
  pub two : Object
  pub structure : IsStructure (history_of transactions) first pivot last
  pub names : cause ≡ c.Structure (at transactions first).number one (at transactions pivot).number two (at transactions last).number
  pub by_first : IsReadBy one (at transactions first) (at transactions pivot)
  pub by_pivot : IsReadBy two (at transactions pivot) (at transactions last)
  pub first_within : first ≤ place
  pub pivot_within : pivot ≤ place
  pub takes_part : (first ≡ place) ⊎ (pivot ≡ place)

-- it takes part in none, as none of the three
abbrev pub IsInNoStructure : List Transaction → ℕ → Type 0
IsInNoStructure transactions place = IsInStructure (history_of transactions) place → ⊥

-- why a commit is refused: want of memory, or a structure in which the transaction takes part if it commits now
abbrev pub IsBarredBy : Known → ℕ → Refusal → Type 0
IsBarredBy known txn NoMemory = Unit {0}
IsBarredBy known txn (Serial cause) = IsCauseOf (with_commit_of known txn) (length known.committed) cause
IsBarredBy known txn _ = ⊥
