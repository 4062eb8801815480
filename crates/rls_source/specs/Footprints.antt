-- A footprint: the objects that were read, each once, in the order of objects.
use Rattle.std.specs.Prelude.{◌≡◌, List, [], ◌∷◌, Bool}
use Rattle.std.specs.BTreeMap.{is_at}
use Rattle.std.specs.BTreeSet.{insert_key}
use Rattle.std.specs.List.{list_any}
use Rattle.std.specs.List.Sorted.{IsStrictlySortedBy}
use Rattle.rls_catalog.specs.rls_value.specs.declared.object.Object.{Object}
use Rattle.rls_catalog.specs.rls_value.specs.Objects.{object_order}

-- the objects with this one in its place; as they are where it is among them
abbrev pub with_object : List Object → Object → List Object
with_object objects object = insert_key object_order objects object

-- the objects with each that was read
abbrev pub with_reads : List Object → List Object → List Object
with_reads objects [] = objects
with_reads objects (read ∷ reads) = with_reads (with_object objects read) reads

-- the objects that were read, each once, in order
abbrev pub footprint_of : List Object → List Object
footprint_of reads = with_reads [] reads

-- the two objects are the same
abbrev pub is_object : Object → Object → Bool
is_object object other = is_at (object_order object) other

-- the object is among them
abbrev pub is_among : List Object → Object → Bool
is_among objects object = list_any (is_object object) objects

-- they stand in the order of objects, each once
abbrev pub IsInOrder : List Object → Type 0
IsInOrder objects = IsStrictlySortedBy object_order objects

-- reads count as a set: those of a footprint lead where those lead that it is made of
pub record CountsOnce {S : Type 0} (after : List Object → S) : Type 0 where
  pub counted : (reads : List Object) → after (footprint_of reads) ≡ after reads
