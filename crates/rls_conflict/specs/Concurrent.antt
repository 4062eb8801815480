-- What the indexes tell of those concurrent with a running transaction: who wrote an object, and the places of those that
-- committed since it began.
use Rattle.std.specs.Prelude.{◌≡◌, ℕ, suc, List, Bool, true, false, not, ◌&&◌, ◌||◌, nat_eq, nat_lt, nat_le, Option, Some, None}
use Rattle.std.specs.List.{list_any}
use Rattle.std.specs.Map.{keys_of}
use Rattle.rls_value.specs.declared.object.Object.{Object}
use Rattle.rls_source.specs.Footprints.{is_among}
use Rattle.rls_siread.specs.Locks.{Locks, commit_of, held_by, is_number_in}
use Rattle.rls_siread.specs.Index.{HolderList, held_at}
use Rattle.rls_conflict.specs.declared.committed.Access.{Access}
use Rattle.rls_conflict.specs.declared.committed.Access.TheVariants.{Read, Write}
use Rattle.rls_conflict.specs.declared.committed.Committed.{Committed}
use Rattle.rls_conflict.specs.Begun.{Begun}
use Rattle.rls_conflict.specs.Search.{holds_at}
use Rattle.rls_conflict.specs.Written.{is_no_key}

-- it noted the object as read, or its changes cover it
abbrev pub has_accessed : Access → Object → Committed → Bool
has_accessed Read object it = is_among it.transaction.noted object
has_accessed Write object it = is_among it.covered object

-- ---- who wrote an object

-- it runs, or committed once so many had
abbrev pub is_since : ℕ → Option ℕ → Bool
is_since snap (Some commit) = nat_lt snap commit
is_since snap None = true

-- another that runs, or committed since
abbrev pub is_concurrent_by : Locks → ℕ → ℕ → ℕ → Bool
is_concurrent_by locks txn snap number = not (nat_eq txn number) && is_since snap (commit_of locks number)

-- it is the one of that number
abbrev pub is_that_by : Locks → ℕ → ℕ → ℕ → ℕ → Bool
is_that_by locks txn snap number other = nat_eq number other && is_concurrent_by locks txn snap other

-- one that passes the test wrote the object. Rows without a key have none in common.
abbrev pub has_writer : (ℕ → Bool) → List (Object × HolderList) → Object → Bool
has_writer is_one writers object = not (is_no_key object) && list_any is_one (held_at writers object)

-- the one of that number is concurrent, and wrote the object
abbrev pub is_writer_beside : Locks → List (Object × HolderList) → ℕ → ℕ → Object → ℕ → Bool
is_writer_beside locks writers txn snap object number = is_concurrent_by locks txn snap number && is_number_in (held_at writers object) number

-- Of those that wrote an object, the concurrent ones are just those that run, and those that committed since: whatever is asked of
-- their numbers beside.
abbrev pub AreWritersBeside : List Committed → List (ℕ × Begun) → Locks → List (Object × HolderList) → ℕ → ℕ → Type 0
AreWritersBeside since running locks writers txn snap = (object : Object) (test : ℕ → Bool)
    → list_any (λ number. test number && is_concurrent_by locks txn snap number) (held_at writers object)
    ≡ (list_any (λ number. test number && is_writer_beside locks writers txn snap object number) (keys_of running) || list_any (λ it. test it.transaction.number && has_accessed Write object it) since)

-- none of the objects was written by a concurrent one
abbrev pub NoneWrote : List Object → List (Object × HolderList) → Locks → ℕ → ℕ → Type 0
NoneWrote objects writers locks txn snap = (object : Object) → is_among objects object ≡ true → has_writer (is_concurrent_by locks txn snap) writers object ≡ false

-- it is one of the objects, and the concurrent one of that number wrote it
pub record HasWritten (objects : List Object) (writers : List (Object × HolderList)) (locks : Locks) (txn snap : ℕ) (object : Object) (number : ℕ) : Type 0 where
  pub among : is_among objects object ≡ true
  pub by_other : has_writer (is_that_by locks txn snap number) writers object ≡ true

-- ---- the places of those that committed since

-- it committed at the place, once so many had
abbrev pub is_at_place : ℕ → Option ℕ → ℕ → Bool
is_at_place snap (Some commit) place = nat_lt snap commit && nat_eq commit (suc place)
is_at_place snap None place = false

-- one of the transactions did
abbrev pub is_place_of : Locks → ℕ → List ℕ → ℕ → Bool
is_place_of locks snap numbers place = list_any (λ number. is_at_place snap (commit_of locks number) place) numbers

-- one that noted one of the objects
abbrev pub is_place_of_reader : Locks → ℕ → List Object → ℕ → Bool
is_place_of_reader locks snap objects place = list_any (λ object. is_place_of locks snap (held_by locks object) place) objects

-- one whose changes cover one of the objects
abbrev pub is_place_of_writer : List (Object × HolderList) → Locks → ℕ → List Object → ℕ → Bool
is_place_of_writer writers locks snap objects place = list_any (λ object. is_place_of locks snap (held_at writers object) place) objects

-- ---- the same, told by those that committed since

-- one stands at the place that passes the test, and committed once so many had
abbrev pub holds_since : (Committed → Bool) → List Committed → ℕ → ℕ → Bool
holds_since test committed snap place = nat_le snap place && holds_at test committed place

-- those that hold an object as read and committed since are just those that committed since and noted it
abbrev pub AreReadersTold : List Committed → Locks → ℕ → Type 0
AreReadersTold committed locks snap = (object : Object) (place : ℕ) → is_place_of locks snap (held_by locks object) place ≡ holds_since (has_accessed Read object) committed snap place

-- those that wrote it and committed since are just those that committed since and whose changes cover it
abbrev pub AreWritersTold : List Committed → List (Object × HolderList) → Locks → ℕ → Type 0
AreWritersTold committed writers locks snap = (object : Object) (place : ℕ) → is_place_of locks snap (held_at writers object) place ≡ holds_since (has_accessed Write object) committed snap place
