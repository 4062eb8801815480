-- Read locks: who holds each object, and what each transaction noted (Ports and Grittner, VLDB 2012, 5.2).
use Rattle.std.specs.Prelude.{◌≡◌, ℕ, List, [], ◌∷◌, ◌++◌, Bool, true, false, not, nat_eq, nat_le, filter, Option, Some, None, if◌then◌else◌}
use Rattle.std.specs.BTreeMap.{is_at}
use Rattle.std.specs.Option.{is_some}
use Rattle.std.specs.List.{list_any}
use Rattle.std.specs.Map.{lookup, keys_of}
use Rattle.std.specs.Ordering.{nat_cmp}
use Rattle.rls_value.specs.declared.object.Object.{Object}
use Rattle.rls_value.specs.Objects.{object_order}
use Rattle.rls_catalog.specs.declared.change.Change.{Change}
use Rattle.rls_catalog.specs.Bases.{covers}
use Rattle.rls_source.specs.Footprints.{with_reads, footprint_of, is_among}
use Rattle.rls_siread.specs.Covering.{covered_by}
use Rattle.rls_siread.specs.Promotion.{promoted}

-- what a transaction noted, each object once, in order; and the number of its commit, once it committed
pub record Notes : Type 0 where
  pub commit : Option ℕ
  pub objects : List Object

-- who holds each object, in the order of their first notes of it; and the notes of each transaction, by its number
pub record Locks : Type 0 where
  pub holders : List (Object × List ℕ)
  pub notes : List (ℕ × Notes)

-- nothing is noted
abbrev pub no_locks : Locks
no_locks = record { holders = []; notes = [] }

-- ---- what is held and noted

-- the numbers, if there are any
abbrev pub numbers_in : Option (List ℕ) → List ℕ
numbers_in (Some txns) = txns
numbers_in None = []

-- the transactions that stand under the object
abbrev pub held_in : List (Object × List ℕ) → Object → List ℕ
held_in holders object = numbers_in (lookup (is_at (object_order object)) holders)

-- the transactions that hold the object, in the order of their first notes of it
abbrev pub held_by : Locks → Object → List ℕ
held_by locks object = held_in locks.holders object

-- the objects, if there are notes
abbrev pub objects_in : Option Notes → List Object
objects_in (Some notes) = notes.objects
objects_in None = []

-- the commit's number, if there are notes
abbrev pub commit_in : Option Notes → Option ℕ
commit_in (Some notes) = notes.commit
commit_in None = None

-- the notes of the transaction
abbrev pub notes_at : List (ℕ × Notes) → ℕ → Option Notes
notes_at notes txn = lookup (is_at (nat_cmp txn)) notes

-- what the transaction noted
abbrev pub noted_by : Locks → ℕ → List Object
noted_by locks txn = objects_in (notes_at locks.notes txn)

-- it has noted something, if only that it read nothing
abbrev pub has_notes : Locks → ℕ → Bool
has_notes locks txn = is_some (notes_at locks.notes txn)

-- the number of its commit, if it committed and isn't forgotten
abbrev pub commit_of : Locks → ℕ → Option ℕ
commit_of locks txn = commit_in (notes_at locks.notes txn)

-- ---- who reads from a change

-- the number is among them
abbrev pub is_number_in : List ℕ → ℕ → Bool
is_number_in numbers number = list_any (nat_eq number) numbers

-- one of the objects that the transaction noted is covered by the change
abbrev pub is_reader : Locks → Change → ℕ → Bool
is_reader locks change txn = list_any (λ object. covers object change) (noted_by locks txn)

-- with the transaction as the last, unless it is there
abbrev pub arrived : List ℕ → ℕ → List ℕ
arrived txns txn = if is_number_in txns txn then txns else txns ++ txn ∷ []

-- with each of the others in turn
abbrev pub all_arrived : List ℕ → List ℕ → List ℕ
all_arrived txns [] = txns
all_arrived txns (txn ∷ more) = all_arrived (arrived txns txn) more

-- with the holders of each object in turn
abbrev pub with_holders : List (Object × List ℕ) → List ℕ → List Object → List ℕ
with_holders holders txns [] = txns
with_holders holders txns (object ∷ objects) = with_holders holders (all_arrived txns (held_in holders object)) objects

-- the holders of the objects that the change covers, each once: by object in the order of objects, and within one object
-- in the order of their first notes of it
abbrev pub holders_of : Locks → Change → List ℕ
holders_of locks change = with_holders locks.holders [] (footprint_of (covered_by change))

-- ---- what calls leave

-- without the transaction
abbrev pub without : List ℕ → ℕ → List ℕ
without txns txn = filter (λ other. not (nat_eq txn other)) txns

-- the holders of an object, once the transaction holds it or doesn't
abbrev pub held_with : Bool → List ℕ → ℕ → List ℕ
held_with true txns txn = arrived txns txn
held_with false txns txn = without txns txn

-- the transaction has noted these objects, and holds just these; all else is as it was
pub record HasNoted (txn : ℕ) (objects : List Object) (old new : Locks) : Type 0 where
  pub notes : (other : ℕ) → notes_at new.notes other ≡ (if nat_eq txn other then Some (record { commit = commit_of old txn; objects = objects }) else notes_at old.notes other)
  pub holders : (object : Object) → held_by new object ≡ held_with (is_among objects object) (held_by old object) txn

-- the notes, with these objects too
abbrev pub noting : List Object → Notes → Notes
noting objects notes = record { commit = notes.commit; objects = with_reads notes.objects objects }

-- the notes, with the number of the commit
abbrev pub marked : ℕ → Option Notes → Option Notes
marked commit (Some notes) = Some (record { commit = Some commit; objects = notes.objects })
marked commit None = None

-- the transaction's commit has that number; all else is as it was
pub record HasCommitted (txn commit : ℕ) (old new : Locks) : Type 0 where
  pub notes : (other : ℕ) → notes_at new.notes other ≡ (if nat_eq txn other then marked commit (notes_at old.notes other) else notes_at old.notes other)
  pub holders : new.holders ≡ old.holders

-- it committed, at that number or before
abbrev pub is_committed_by : ℕ → Option ℕ → Bool
is_committed_by last (Some commit) = nat_le commit last
is_committed_by last None = false

-- the transaction has notes, which stay once those are gone that committed at that number or before
abbrev pub is_left : ℕ → Option Notes → Bool
is_left last (Some notes) = not (is_committed_by last notes.commit)
is_left last None = false

-- the transactions and their notes are gone; all else is as it was
pub record HasForgotten (gone : ℕ → Bool) (old new : Locks) : Type 0 where
  pub notes : (txn : ℕ) → notes_at new.notes txn ≡ (if gone txn then None else notes_at old.notes txn)
  pub holders : (object : Object) → held_by new object ≡ filter (λ txn. not (gone txn)) (held_by old object)

-- the notes, with the rows of each crowded table in place of its keys
abbrev pub promoted_notes : ℕ → Option Notes → Option Notes
promoted_notes limit (Some notes) = Some (record { commit = notes.commit; objects = promoted limit notes.objects })
promoted_notes limit None = None

-- the holders of an object, once each of the transactions in turn holds it, or doesn't, by its promoted notes
abbrev pub held_promoted : ℕ → List (ℕ × Notes) → Object → List ℕ → List ℕ → List ℕ
held_promoted limit notes object [] held = held
held_promoted limit notes object (txn ∷ txns) held =
    held_promoted limit notes object txns (held_with (is_among (promoted limit (objects_in (notes_at notes txn))) object) held txn)

-- the notes of all are promoted, in the order of their numbers
pub record HasPromoted (limit : ℕ) (old new : Locks) : Type 0 where
  pub notes : (txn : ℕ) → notes_at new.notes txn ≡ promoted_notes limit (notes_at old.notes txn)
  pub holders : (object : Object) → held_by new object ≡ held_promoted limit old.notes object (keys_of old.notes) (held_by old object)
