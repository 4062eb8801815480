-- Reads count as a set: neither their order nor how often one stands there changes what objects with them are.
use Rattle.std.specs.Prelude.{◌≡◌, refl, List, [], ◌∷◌}
use Rattle.std.specs.Ordering.{match_ordering, ordering_reverse}
use Rattle.std.specs.declared.cmp.Ordering.{Ordering}
use Rattle.std.specs.declared.cmp.Ordering.TheVariants.{Less, Equal, Greater}
use Rattle.std.proofs.Common.{ap, sym, ◌∙◌}
use Rattle.std.proofs.lemmas.Cmp.{tied_itself}
use Rattle.rls_catalog.specs.rls_value.specs.{declared.object.Object.Object, Objects.object_order, ObjectOrder.objects_total}
use Rattle.rls_catalog.specs.rls_value.proofs.ObjectOrderLaws.{objects_same}
use Rattle.rls_source.specs.Footprints.{with_object, with_reads, footprint_of}

-- ---- where an object goes

above : (x read : Object) → object_order read x ≡ Greater → object_order x read ≡ Less
above x read is = objects_total.antisymm x read ∙ ap ordering_reverse is

below : (x read : Object) → object_order x read ≡ Less → object_order read x ≡ Greater
below x read is = objects_total.antisymm read x ∙ ap ordering_reverse is

put_at : (order : Ordering) (read x : Object) (objects : List Object) → object_order read x ≡ order
    → with_object (x ∷ objects) read ≡ match_ordering order (read ∷ x ∷ objects) (x ∷ objects) (x ∷ with_object objects read)
put_at order read x objects is = ap (λ (it : Ordering). match_ordering it (read ∷ x ∷ objects) (x ∷ objects) (x ∷ with_object objects read)) is

-- behind an object that is below it
past : (x read : Object) (objects : List Object) → object_order x read ≡ Less → with_object (x ∷ objects) read ≡ x ∷ with_object objects read
past x read objects less = put_at Greater read x objects (below x read less)

-- ---- an object twice is the object once

twice_if : (order : Ordering) (x read : Object) (objects : List Object) → object_order read x ≡ order → with_object (with_object objects read) read ≡ with_object objects read
    → with_object (match_ordering order (read ∷ x ∷ objects) (x ∷ objects) (x ∷ with_object objects read)) read ≡ match_ordering order (read ∷ x ∷ objects) (x ∷ objects) (x ∷ with_object objects read)
twice_if Less x read objects is further = put_at Equal read read (x ∷ objects) (tied_itself objects_total read)
twice_if Equal x read objects is further = put_at Equal read x objects is
twice_if Greater x read objects is further = put_at Greater read x (with_object objects read) is ∙ ap (λ (rest : List Object). x ∷ rest) further

twice : (objects : List Object) (read : Object) → with_object (with_object objects read) read ≡ with_object objects read
twice [] read = put_at Equal read read [] (tied_itself objects_total read)
twice (x ∷ objects) read = twice_if (object_order read x) x read objects refl (twice objects read)

-- ---- of two objects either may come first

before_if : (order : Ordering) (a b x : Object) (objects : List Object) → object_order a x ≡ Less → object_order a b ≡ Less
    → with_object (match_ordering order (b ∷ x ∷ objects) (x ∷ objects) (x ∷ with_object objects b)) a ≡ a ∷ match_ordering order (b ∷ x ∷ objects) (x ∷ objects) (x ∷ with_object objects b)
before_if Less a b x objects first less = put_at Less a b (x ∷ objects) less
before_if Equal a b x objects first less = put_at Less a x objects first
before_if Greater a b x objects first less = put_at Less a x (with_object objects b) first

turned_if : (order : Ordering) (a b x : Object) (objects : List Object) → object_order a x ≡ order → object_order a b ≡ Less
    → with_object (with_object objects a) b ≡ with_object (with_object objects b) a
    → with_object (match_ordering order (a ∷ x ∷ objects) (x ∷ objects) (x ∷ with_object objects a)) b ≡ with_object (with_object (x ∷ objects) b) a
turned_if Less a b x objects is less further = past a b (x ∷ objects) less ∙ sym (before_if (object_order b x) a b x objects is less)
turned_if Equal a b x objects is less further =
    let put : with_object (x ∷ objects) b ≡ x ∷ with_object objects b = put_at Greater b x objects (ap (object_order b) (sym (objects_same a x is)) ∙ below a b less) in
    put ∙ sym (put_at Equal a x (with_object objects b) is) ∙ sym (ap (λ (all : List Object). with_object all a) put)
turned_if Greater a b x objects is less further =
    let first : object_order x a ≡ Less = above x a is in
    let both : object_order x b ≡ Less = objects_total.trans x a b first less in
    past x b (with_object objects a) both
    ∙ ap (λ (rest : List Object). x ∷ rest) further
    ∙ sym (past x a (with_object objects b) first)
    ∙ sym (ap (λ (all : List Object). with_object all a) (past x b objects both))

turned_less : (objects : List Object) (a b : Object) → object_order a b ≡ Less → with_object (with_object objects a) b ≡ with_object (with_object objects b) a
turned_less [] a b less = past a b [] less ∙ sym (put_at Less a b [] less)
turned_less (x ∷ objects) a b less = turned_if (object_order a x) a b x objects refl less (turned_less objects a b less)

turned_by : (order : Ordering) (objects : List Object) (a b : Object) → object_order a b ≡ order → with_object (with_object objects a) b ≡ with_object (with_object objects b) a
turned_by Less objects a b is = turned_less objects a b is
turned_by Equal objects a b is =
    ap (λ (it : Object). with_object (with_object objects a) it) (sym (objects_same a b is)) ∙ ap (λ (it : Object). with_object (with_object objects it) a) (objects_same a b is)
turned_by Greater objects a b is = sym (turned_less objects b a (above b a is))

turned : (objects : List Object) (a b : Object) → with_object (with_object objects a) b ≡ with_object (with_object objects b) a
turned objects a b = turned_by (object_order a b) objects a b refl

-- ---- reads count as a set

later : (objects reads : List Object) (read : Object) → with_object (with_reads objects reads) read ≡ with_reads (with_object objects read) reads
later objects [] read = refl
later objects (first ∷ reads) read = later (with_object objects first) reads read ∙ ap (λ (all : List Object). with_reads all reads) (turned objects first read)

one_more_if : (order : Ordering) (objects more : List Object) (x read : Object) → object_order read x ≡ order
    → with_reads (with_object objects x) (with_object more read) ≡ with_object (with_reads (with_object objects x) more) read
    → with_reads objects (match_ordering order (read ∷ x ∷ more) (x ∷ more) (x ∷ with_object more read)) ≡ with_object (with_reads (with_object objects x) more) read
one_more_if Less objects more x read is further =
    ap (λ (all : List Object). with_reads all more) (turned objects read x) ∙ sym (later (with_object objects x) more read)
one_more_if Equal objects more x read is further =
    sym (later (with_object objects x) more read ∙ ap (λ (all : List Object). with_reads all more) (ap (with_object (with_object objects x)) (objects_same read x is) ∙ twice objects x))
one_more_if Greater objects more x read is further = further

one_more : (objects more : List Object) (read : Object) → with_reads objects (with_object more read) ≡ with_object (with_reads objects more) read
one_more objects [] read = refl
one_more objects (x ∷ more) read = one_more_if (object_order read x) objects more x read refl (one_more (with_object objects x) more read)

each_once : (objects more reads : List Object) → with_reads objects (with_reads more reads) ≡ with_reads (with_reads objects more) reads
each_once objects more [] = refl
each_once objects more (read ∷ reads) = each_once objects (with_object more read) reads ∙ ap (λ (all : List Object). with_reads all reads) (one_more objects more read)

-- objects with the footprint of reads are the objects with the reads
pub with_footprint : (objects reads : List Object) → with_reads objects (footprint_of reads) ≡ with_reads objects reads
with_footprint objects reads = each_once objects [] reads
