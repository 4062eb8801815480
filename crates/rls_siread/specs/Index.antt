-- The index of holders by object. An object that nobody holds may have a place in it, which isn't seen.
use Rattle.std.specs.Prelude.{◌≡◌, ◌≤◌, ℕ, List, [], ◌∷◌, Bool, true, false, ◌||◌, nat_lt, Option, Some, None}
use Rattle.std.specs.BTreeMap.{is_at}
use Rattle.std.specs.Map.{lookup}
use Rattle.rls_value.specs.declared.object.Object.{Object}
use Rattle.rls_value.specs.Objects.{object_order}
use Rattle.rls_source.specs.Footprints.{is_among}
use Rattle.rls_siread.specs.Locks.{Notes, Locks, is_number_in, held_in, objects_in, commit_in, notes_at}

-- the holders of an object, in the order of their first notes of it; and how many more fit without memory
pub record HolderList : Type 0 where
  pub txns : List ℕ
  pub room : ℕ

-- the object with its holders, where it has any
abbrev pub shown_before : Object → List ℕ → List (Object × List ℕ) → List (Object × List ℕ)
shown_before object [] more = more
shown_before object (txn ∷ txns) more = (object, txn ∷ txns) ∷ more

-- who holds each object
abbrev pub shown : List (Object × HolderList) → List (Object × List ℕ)
shown [] = []
shown (entry ∷ more) = shown_before entry.0 entry.1.txns (shown more)

-- who holds the object
abbrev pub held_at : List (Object × HolderList) → Object → List ℕ
held_at entries object = held_in (shown entries) object

-- the transaction is there, or fits without memory
abbrev pub is_ready_in : Option HolderList → ℕ → Bool
is_ready_in (Some held) txn = is_number_in held.txns txn || nat_lt 0 held.room
is_ready_in None txn = false

-- the transaction holds the object, or can without memory
abbrev pub is_ready : List (Object × HolderList) → ℕ → Object → Bool
is_ready entries txn object = is_ready_in (lookup (is_at (object_order object)) entries) txn

-- who could hold the object without memory still can
abbrev pub KeepsReady : List (Object × HolderList) → List (Object × HolderList) → ℕ → Object → Type 0
KeepsReady old new txn object = is_ready old txn object ≡ true → is_ready new txn object ≡ true

-- who holds an object is told by the notes
abbrev pub AreTold : List (Object × List ℕ) → List (ℕ × Notes) → Type 0
AreTold holders notes = (object : Object) (txn : ℕ) → is_number_in (held_in holders object) txn ≡ is_among (objects_in (notes_at notes txn)) object

-- who holds an object by the index is told by the notes
abbrev pub IsIndexed : List (Object × HolderList) → List (ℕ × Notes) → Type 0
IsIndexed entries notes = AreTold (shown entries) notes

-- no commit that isn't forgotten has a lower number
abbrev pub CommitsFrom : ℕ → List (ℕ × Notes) → Type 0
CommitsFrom least notes = (txn commit : ℕ) → commit_in (notes_at notes txn) ≡ Some commit → least ≤ commit

-- holders are told by the notes, and commits by the least number
pub record IsKept (holders : List (Object × List ℕ)) (notes : List (ℕ × Notes)) (least : ℕ) : Type 0 where
  pub told : AreTold holders notes
  pub commits : CommitsFrom least notes

-- what is seen of the index and the notes
abbrev pub locks_of : List (Object × HolderList) → List (ℕ × Notes) → Locks
locks_of entries notes = record { holders = shown entries; notes = notes }

-- the transaction alone holds the objects
abbrev pub held_alone : ℕ → List Object → List (Object × List ℕ)
held_alone txn [] = []
held_alone txn (object ∷ objects) = (object, txn ∷ []) ∷ held_alone txn objects

-- who holds each object: where one transaction alone holds any, what it noted; else what the index says
abbrev pub holders_by : Option ℕ → List (Object × HolderList) → List (ℕ × Notes) → List (Object × List ℕ)
holders_by None entries notes = shown entries
holders_by (Some txn) entries notes = held_alone txn (objects_in (notes_at notes txn))

-- what is seen of the one that is alone, the index and the notes
abbrev pub locks_by : Option ℕ → List (Object × HolderList) → List (ℕ × Notes) → Locks
locks_by alone entries notes = record { holders = holders_by alone entries notes; notes = notes }
