-- In a footprint an object stands once, in order; objects in order, each once, are their own footprint.
use Rattle.std.specs.Prelude.{◌≡◌, refl, List, [], ◌∷◌, ◌++◌, true, false, ◌||◌}
use Rattle.std.specs.BTreeSet.{BTreeSet, IsFromIterResult}
use Rattle.std.specs.List.{AllByRecursion}
use Rattle.std.specs.List.Sorted.{IsStrictlySortedBy}
use Rattle.std.specs.Ordering.{is_eq, is_lt, match_ordering, ordering_reverse}
use Rattle.std.specs.declared.cmp.Ordering.{Ordering}
use Rattle.std.specs.declared.cmp.Ordering.TheVariants.{Less, Equal, Greater}
use Rattle.std.proofs.Common.{ap, sym, ◌∙◌, subst, append-nil, append_assoc}
use Rattle.std.proofs.{lemmas.Bool.true≢false, lemmas.Cmp.tied_itself}
use Rattle.rls_catalog.specs.rls_value.specs.{declared.object.Object.Object, Objects.object_order, ObjectOrder.objects_total}
use Rattle.rls_catalog.specs.rls_value.proofs.ObjectOrderLaws.{objects_same}
use Rattle.rls_source.specs.{Footprints.with_object, Footprints.with_reads, Footprints.footprint_of, Footprints.is_object, Footprints.is_among, Footprints.IsInOrder, FootprintLaws.among_footprint}

-- ---- an object stands in a footprint once, in order

above : (x read : Object) → object_order read x ≡ Greater → object_order x read ≡ Less
above x read is = objects_total.antisymm x read ∙ ap ordering_reverse is

below_all : (read x : Object) (objects : List Object) → object_order read x ≡ Less → AllByRecursion (λ y. object_order x y ≡ Less) objects → AllByRecursion (λ y. object_order read y ≡ Less) objects
below_all read x [] is all = tt
below_all read x (y ∷ objects) is all = (objects_total.trans read x y is all.0, below_all read x objects is all.1)

still_if : (order : Ordering) (x y read : Object) (objects more : List Object) → object_order x read ≡ Less → AllByRecursion (λ z. object_order x z ≡ Less) (y ∷ objects)
    → AllByRecursion (λ z. object_order x z ≡ Less) more
    → AllByRecursion (λ z. object_order x z ≡ Less) (match_ordering order (read ∷ y ∷ objects) (y ∷ objects) (y ∷ more))
still_if Less x y read objects more is all further = (is, all)
still_if Equal x y read objects more is all further = all
still_if Greater x y read objects more is all further = (all.0, further)

still_above : (x read : Object) (objects : List Object) → object_order x read ≡ Less → AllByRecursion (λ z. object_order x z ≡ Less) objects
    → AllByRecursion (λ z. object_order x z ≡ Less) (with_object objects read)
still_above x read [] is all = (is, tt)
still_above x read (y ∷ objects) is all = still_if (object_order read y) x y read objects (with_object objects read) is all (still_above x read objects is all.1)

in_order_if : (order : Ordering) (x read : Object) (objects : List Object) → object_order read x ≡ order → IsInOrder (x ∷ objects) → IsInOrder (with_object objects read)
    → IsInOrder (match_ordering order (read ∷ x ∷ objects) (x ∷ objects) (x ∷ with_object objects read))
unfolding IsStrictlySortedBy
in_order_if Less x read objects is ordered further = ((is, below_all read x objects is ordered.0), ordered)
in_order_if Equal x read objects is ordered further = ordered
in_order_if Greater x read objects is ordered further = (still_above x read objects (above x read is) ordered.0, further)

-- one object more leaves them in order, each once
pub with_object_in_order : (objects : List Object) (read : Object) → IsInOrder objects → IsInOrder (with_object objects read)
unfolding IsStrictlySortedBy
with_object_in_order [] read ordered = (tt, tt)
with_object_in_order (x ∷ objects) read ordered = in_order_if (object_order read x) x read objects refl ordered (with_object_in_order objects read ordered.1)

-- and so do reads
pub with_reads_in_order : (objects reads : List Object) → IsInOrder objects → IsInOrder (with_reads objects reads)
with_reads_in_order objects [] ordered = ordered
with_reads_in_order objects (read ∷ reads) ordered = with_reads_in_order (with_object objects read) reads (with_object_in_order objects read ordered)

-- in a footprint each object stands once, in order
pub footprint_in_order : (reads : List Object) → IsInOrder (footprint_of reads)
unfolding IsStrictlySortedBy
footprint_in_order reads = with_reads_in_order [] reads tt

-- ---- objects that stand in order, each once, are their own footprint

last_if : (order : Ordering) (x read : Object) (objects more : List Object) → object_order read x ≡ order → object_order x read ≡ Less → more ≡ objects ++ read ∷ []
    → match_ordering order (read ∷ x ∷ objects) (x ∷ objects) (x ∷ more) ≡ x ∷ objects ++ read ∷ []
last_if Less x read objects more is before further = absurd (true≢false (ap is_lt (sym is ∙ objects_total.antisymm read x ∙ ap ordering_reverse before)))
last_if Equal x read objects more is before further = absurd (true≢false (ap is_eq (sym is ∙ objects_total.antisymm read x ∙ ap ordering_reverse before)))
last_if Greater x read objects more is before further = ap (λ rest. x ∷ rest) further

-- each is below the object
abbrev AllBelow : List Object → Object → Type 0
AllBelow objects read = AllByRecursion (λ x. object_order x read ≡ Less) objects

with_last : (objects : List Object) (read : Object) → AllBelow objects read → with_object objects read ≡ objects ++ read ∷ []
with_last [] read below = refl
with_last (x ∷ objects) read below = last_if (object_order read x) x read objects (with_object objects read) refl below.0 (with_last objects read below.1)

among_all : (fact : Object → Type 0) (objects : List Object) (read : Object) (reads : List Object) → AllByRecursion fact (objects ++ read ∷ reads) → fact read
among_all fact [] read reads all = all.0
among_all fact (x ∷ objects) read reads all = among_all fact objects read reads all.1

all_below : (objects : List Object) (read : Object) (reads : List Object) → IsInOrder (objects ++ read ∷ reads) → AllBelow objects read
unfolding IsStrictlySortedBy
all_below [] read reads ordered = tt
all_below (x ∷ objects) read reads ordered = (among_all (λ y. object_order x y ≡ Less) objects read reads ordered.0, all_below objects read reads ordered.1)

with_reads_ordered : (objects reads : List Object) → IsInOrder (objects ++ reads) → with_reads objects reads ≡ objects ++ reads
with_reads_ordered objects [] ordered = sym (append-nil objects)
with_reads_ordered objects (read ∷ reads) ordered =
    ap (λ more. with_reads more reads) (with_last objects read (all_below objects read reads ordered))
    ∙ with_reads_ordered (objects ++ read ∷ []) reads (subst IsInOrder (sym (append_assoc objects (read ∷ []) reads)) ordered)
    ∙ append_assoc objects (read ∷ []) reads

-- such objects are the footprint of themselves
pub footprint_ordered : (objects : List Object) → IsInOrder objects → footprint_of objects ≡ objects
footprint_ordered objects ordered = with_reads_ordered [] objects ordered

-- ---- two lists in order with the same objects are the same list

above_none : (x : Object) (objects : List Object) → AllByRecursion (λ y. object_order x y ≡ Less) objects → is_among objects x ≡ false
above_none x [] all = refl
above_none x (y ∷ objects) all = ap (λ order. is_eq order || is_among objects x) all.0 ∙ above_none x objects all.1

among_itself : (x : Object) (objects : List Object) → is_among (x ∷ objects) x ≡ true
among_itself x objects = ap (λ order. is_eq order || is_among objects x) (tied_itself objects_total x)

others_if : (order : Ordering) (x object : Object) (one other : List Object) → object_order object x ≡ order → is_among one x ≡ false → is_among other x ≡ false
    → (is_eq order || is_among one object) ≡ (is_eq order || is_among other object) → is_among one object ≡ is_among other object
others_if Less x object one other is absent missing same = same
others_if Equal x object one other is absent missing same =
    ap (is_among one) (objects_same object x is) ∙ absent ∙ sym missing ∙ ap (is_among other) (sym (objects_same object x is))
others_if Greater x object one other is absent missing same = same

first_if : (order : Ordering) (x y : Object) (one other : List Object) → object_order x y ≡ order → IsInOrder (x ∷ one) → IsInOrder (y ∷ other)
    → ((object : Object) → is_among (x ∷ one) object ≡ is_among (y ∷ other) object) → x ≡ y
unfolding IsStrictlySortedBy
first_if Less x y one other is ordered too same =
    absurd (true≢false (sym (among_itself x one) ∙ same x ∙ above_none x (y ∷ other) (is, below_all x y other is too.0)))
first_if Equal x y one other is ordered too same = objects_same x y is
first_if Greater x y one other is ordered too same =
    absurd (true≢false (sym (among_itself y other) ∙ sym (same y) ∙ above_none y (x ∷ one) (above y x is, below_all y x one (above y x is) ordered.0)))

-- such lists have the same objects only where they are the same
pub same_in_order : (one other : List Object) → IsInOrder one → IsInOrder other → ((object : Object) → is_among one object ≡ is_among other object) → one ≡ other
unfolding IsStrictlySortedBy
same_in_order [] [] ordered too same = refl
same_in_order [] (y ∷ other) ordered too same = absurd (true≢false (sym (among_itself y other) ∙ sym (same y)))
same_in_order (x ∷ one) [] ordered too same = absurd (true≢false (sym (among_itself x one) ∙ same x))
same_in_order (x ∷ one) (y ∷ other) ordered too same =
    let first = first_if (object_order x y) x y one other refl ordered too same in
    let next : (object : Object) → is_among one object ≡ is_among other object =
    λ object. others_if (object_order object x) x object one other refl (above_none x one ordered.0) (ap (is_among other) first ∙ above_none y other too.0)
    (same object ∙ ap (λ z. is_object object z || is_among other object) (sym first)) in
    ap (λ z. z ∷ one) first ∙ ap (λ rest. y ∷ rest) (same_in_order one other ordered.1 too.1 next)

-- a set that has what was read holds the footprint
pub set_of_reads : (reads : List Object) (set : BTreeSet Object) → IsFromIterResult object_order reads set → set.keys ≡ footprint_of reads
set_of_reads reads set is = same_in_order set.keys (footprint_of reads) is.1 (footprint_in_order reads) (λ object. is.0 object ∙ sym (among_footprint reads object))
