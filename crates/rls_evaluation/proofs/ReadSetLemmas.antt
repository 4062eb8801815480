-- One object more in the read set; objects that were added in order.
use Rattle.std.specs.Prelude.{◌≡◌, List, [], ◌∷◌, ◌++◌, ◌-◌, ◌<◌, ◌≤◌, length, take, drop, get_or}
use Rattle.std.specs.List.{AllByRecursion}
use Rattle.std.specs.List.Sorted.{IsStrictlySortedBy}
use Rattle.std.specs.declared.cmp.Ordering.TheVariants.{Less}
use Rattle.std.proofs.Common.{arith, ap, sym, ◌∙◌, subst}
use Rattle.std.proofs.lemmas.List.{take_all}
use Rattle.rls_value.specs.declared.object.Object.{Object}
use Rattle.rls_value.specs.Objects.{object_order}
use Rattle.rls_value.specs.ObjectOrder.{objects_total}
use Rattle.rls_source.specs.Footprints.{footprint_of, with_object, IsInOrder}
use Rattle.rls_source.specs.FootprintLaws.{with_reads_more}
use Rattle.rls_source.proofs.FootprintOrderLaws.{footprint_in_order, footprint_ordered}

-- what is read behind the others is put among them
pub noted_more : (reads : List Object) (object : Object) → footprint_of (reads ++ object ∷ []) ≡ with_object (footprint_of reads) object
noted_more reads object = sym (with_reads_more [] reads (object ∷ []))

-- what is in order, each once, stays so
pub footprint_again : (reads : List Object) → footprint_of (footprint_of reads) ≡ footprint_of reads
footprint_again reads = footprint_ordered (footprint_of reads) (footprint_in_order reads)

below_others : (object next : Object) (others : List Object) → object_order object next ≡ Less → AllByRecursion (λ y. object_order next y ≡ Less) others → AllByRecursion (λ y. object_order object y ≡ Less) others
below_others object next [] is all = tt
below_others object next (y ∷ others) is all = (objects_total.trans object next y is all.0, below_others object next others is all.1)

-- no object, or one, stands in order
pub in_order_none : (objects : List Object) → length objects < 1 → IsInOrder objects
unfolding IsStrictlySortedBy
in_order_none [] none = tt
in_order_none (x ∷ objects) none = absurd (omega (arith, none))

pub in_order_alone : (object : Object) (others : List Object) → length others < 1 → IsInOrder (object ∷ others)
unfolding IsStrictlySortedBy
in_order_alone object [] none = (tt, tt)
in_order_alone object (x ∷ others) none = absurd (omega (arith, none))

-- an object that comes before the first of the others leaves them in order
pub in_order_front : (object next : Object) (others : List Object) → 1 ≤ length others → next ≡ get_or others 0 next → object_order object next ≡ Less → IsInOrder others → IsInOrder (object ∷ others)
unfolding IsStrictlySortedBy
in_order_front object next [] some is before ordered = absurd (omega (arith, some))
in_order_front object next (x ∷ others) some is before ordered =
    let first = ap (object_order object) (sym is) ∙ before in
    ((first, below_others object x others first ordered.0), ordered)

first_and_others : (objects : List Object) (object : Object) → 1 ≤ length objects → object ≡ get_or objects 0 object → object ∷ take (length objects - 1) (drop 1 objects) ≡ objects
first_and_others [] object some is = absurd (omega (arith, some))
first_and_others (x ∷ objects) object some is = ap (λ o. o ∷ take (length (x ∷ objects) - 1) objects) is ∙ ap (λ rest. x ∷ rest) (take_all (length (x ∷ objects) - 1) objects (omega arith))

-- what the order of all objects hangs on hangs on that of the others, the first coming before them
pub in_order_others : (whole objects : List Object) (object : Object) → 1 ≤ length objects → object ≡ get_or objects 0 object
    → (IsInOrder objects → IsInOrder whole) → (IsInOrder (take (length objects - 1) (drop 1 objects)) → IsInOrder (object ∷ take (length objects - 1) (drop 1 objects)))
    → IsInOrder (take (length objects - 1) (drop 1 objects)) → IsInOrder whole
in_order_others whole objects object some is hangs before ordered = hangs (subst IsInOrder (first_and_others objects object some is) (before ordered))
