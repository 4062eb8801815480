-- An object is in a footprint exactly where it was read.
use Rattle.std.specs.Prelude.{◌≡◌, refl, List, [], ◌∷◌, ◌++◌, Bool, true, false, ◌||◌, ◌↔◌}
use Rattle.std.specs.Ordering.{is_eq, match_ordering}
use Rattle.std.specs.declared.cmp.Ordering.{Ordering}
use Rattle.std.specs.declared.cmp.Ordering.TheVariants.{Less, Equal, Greater}
use Rattle.std.proofs.Common.{ap, sym, ◌∙◌}
use Rattle.std.proofs.lemmas.Bool.{true≢false}
use Rattle.std.proofs.lemmas.Cmp.{tied_itself}
use Rattle.rls_catalog.specs.rls_value.specs.declared.object.Object.{Object}
use Rattle.rls_catalog.specs.rls_value.specs.Objects.{object_order}
use Rattle.rls_catalog.specs.rls_value.specs.ObjectOrder.{objects_total}
use Rattle.rls_catalog.specs.rls_value.proofs.ObjectOrderLaws.{objects_same}
use Rattle.rls_source.specs.Footprints.{with_object, with_reads, footprint_of, is_object, is_among}

-- ---- the same objects

equal_if : (order : Ordering) → is_eq order ≡ true → order ≡ Equal
equal_if Less is = absurd (true≢false (sym is))
equal_if Equal is = refl
equal_if Greater is = absurd (true≢false (sym is))

-- the test is true of an object and itself, and of no others
pub is_object_same : (object other : Object) → is_object object other ≡ true ↔ (object ≡ other)
is_object_same object other = (
  λ is. objects_same object other (equal_if (object_order object other) is),
  λ same. ap (is_object object) (sym same) ∙ ap is_eq (tied_itself objects_total object),
)

-- ---- reads after reads

-- reads after reads are the reads of both, in order
pub with_reads_more : (objects reads more : List Object) → with_reads (with_reads objects reads) more ≡ with_reads objects (reads ++ more)
with_reads_more objects [] more = refl
with_reads_more objects (read ∷ reads) more = with_reads_more (with_object objects read) reads more

-- ---- an object is in the footprint exactly where it was read

or_swapped : (a b c : Bool) → (a || (b || c)) ≡ (b || (a || c))
or_swapped true true c = refl
or_swapped true false c = refl
or_swapped false b c = refl

or_same : (a c : Bool) → (a || c) ≡ (a || (a || c))
or_same true c = refl
or_same false c = refl

among_if : (order : Ordering) (objects more : List Object) (x read object : Object) → object_order read x ≡ order
    → is_among more object ≡ (is_object object read || is_among objects object)
    → is_among (match_ordering order (read ∷ x ∷ objects) (x ∷ objects) (x ∷ more)) object ≡ (is_object object read || is_among (x ∷ objects) object)
among_if Less objects more x read object is further = refl
among_if Equal objects more x read object is further =
    or_same (is_object object x) (is_among objects object) ∙ ap (λ y. is_object object y || is_among (x ∷ objects) object) (sym (objects_same read x is))
among_if Greater objects more x read object is further =
    ap (λ b. is_object object x || b) further ∙ or_swapped (is_object object x) (is_object object read) (is_among objects object)

-- one object more is among them
pub among_with_object : (objects : List Object) (read object : Object) → is_among (with_object objects read) object ≡ (is_object object read || is_among objects object)
among_with_object [] read object = refl
among_with_object (x ∷ objects) read object = among_if (object_order read x) objects (with_object objects read) x read object refl (among_with_object objects read object)

or_turned : (a b c : Bool) → (a || (b || c)) ≡ ((b || a) || c)
or_turned true true c = refl
or_turned true false c = refl
or_turned false true c = refl
or_turned false false c = refl

-- among the objects with the reads are the reads and the objects
pub among_with_reads : (objects reads : List Object) (object : Object) → is_among (with_reads objects reads) object ≡ (is_among reads object || is_among objects object)
among_with_reads objects [] object = refl
among_with_reads objects (read ∷ reads) object =
    among_with_reads (with_object objects read) reads object
    ∙ ap (λ b. is_among reads object || b) (among_with_object objects read object)
    ∙ or_turned (is_among reads object) (is_object object read) (is_among objects object)

or_none : (a : Bool) → (a || false) ≡ a
or_none true = refl
or_none false = refl

-- an object is in the footprint of reads exactly where it was read
pub among_footprint : (reads : List Object) (object : Object) → is_among (footprint_of reads) object ≡ is_among reads object
among_footprint reads object = among_with_reads [] reads object ∙ or_none (is_among reads object)
