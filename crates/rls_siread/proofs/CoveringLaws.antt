-- What changes cover: the objects of their footprint, and who reads from them.
use Rattle.std.specs.Prelude.{◌≡◌, refl, List, [], ◌∷◌, Bool, true, false, ◌||◌}
use Rattle.std.specs.List.{list_any}
use Rattle.std.specs.Ordering.{is_eq, nat_cmp, ordering_then, ordering_reverse}
use Rattle.std.specs.Cmp.Lexicographic.{slice_cmp}
use Rattle.std.specs.declared.cmp.Ordering.{Ordering}
use Rattle.std.specs.declared.cmp.Ordering.TheVariants.{Less, Equal, Greater}
use Rattle.std.proofs.Common.{ap, sym, ◌∙◌}
use Rattle.std.proofs.lemmas.List.Folds.{list_any-append}
use Rattle.std.proofs.lemmas.Map.Text.{is_eq-slice_cmp}
use Rattle.rls_value.specs.declared.object.Object.{Object}
use Rattle.rls_value.specs.declared.object.Object.TheVariants as o
use Rattle.rls_value.specs.Objects.{object_order}
use Rattle.rls_value.specs.ObjectOrder.{objects_total}
use Rattle.rls_catalog.specs.declared.change.Change.{Change}
use Rattle.rls_catalog.specs.declared.change.Change.TheVariants as c
use Rattle.rls_catalog.specs.Bases.{covers, covers_any}
use Rattle.rls_catalog.specs.Writes.{writes, is_written, is_rows_of}
use Rattle.rls_catalog.proofs.WritesLaws.{covered_writes}
use Rattle.rls_source.specs.Footprints.{footprint_of, is_object, is_among}
use Rattle.rls_source.specs.FootprintLaws.{among_footprint}
use Rattle.rls_siread.specs.Covering.{rows_changed, covered_by, covered_by_all, covered_of}

-- ---- the objects of one change

or_none : (b : Bool) → (b || false) ≡ b
or_none true = refl
or_none false = refl

then_same : (order : Ordering) → is_eq (ordering_then order Equal) ≡ is_eq order
then_same Less = refl
then_same Equal = refl
then_same Greater = refl

rows_among : (change : Change) (object : Object) → is_among (rows_changed change) object ≡ is_rows_of object change
rows_among (c.Role n d) (o.Rows table) = refl
rows_among (c.Role n d) _ = refl
rows_among (c.Members n d) (o.Rows table) = refl
rows_among (c.Members n d) _ = refl
rows_among (c.Table n d) (o.Rows table) = refl
rows_among (c.Table n d) _ = refl
rows_among (c.Grants n d) (o.Rows table) = refl
rows_among (c.Grants n d) _ = refl
rows_among (c.Policies n d) (o.Rows table) = refl
rows_among (c.Policies n d) _ = refl
rows_among (c.Row row) (o.Rows table) = or_none (is_object (o.Rows table) (o.Rows row.table)) ∙ then_same (slice_cmp nat_cmp table row.table) ∙ is_eq-slice_cmp table row.table
rows_among (c.Row row) _ = refl

-- the objects that a change covers are those that are covered by it
pub among_covered : (change : Change) (object : Object) → is_among (covered_by change) object ≡ covers object change
among_covered change object =
    list_any-append (is_object object) (writes change) (rows_changed change)
    ∙ ap (λ b. is_written object change || b) (rows_among change object)
    ∙ sym (covered_writes object change)

-- ---- those of several

among_covered_all : (changes : List Change) (object : Object) → is_among (covered_by_all changes) object ≡ covers_any object changes
among_covered_all [] object = refl
among_covered_all (change ∷ changes) object =
    list_any-append (is_object object) (covered_by change) (covered_by_all changes)
    ∙ (λ i. among_covered change object i || among_covered_all changes object i)

-- an object is among those that changes cover exactly where one of them covers it
pub among_covered_of : (changes : List Change) (object : Object) → is_among (covered_of changes) object ≡ covers_any object changes
among_covered_of changes object = among_footprint (covered_by_all changes) object ∙ among_covered_all changes object

-- ---- who reads from a change

reversed_same : (order : Ordering) → is_eq (ordering_reverse order) ≡ is_eq order
reversed_same Less = refl
reversed_same Equal = refl
reversed_same Greater = refl

-- the test looks the same from both sides
pub object_turned : (one other : Object) → is_object one other ≡ is_object other one
object_turned one other = ap is_eq (objects_total.antisymm one other) ∙ reversed_same (object_order other one)

or_four : (a b c d : Bool) → ((a || b) || (c || d)) ≡ ((a || c) || (b || d))
or_four true b true d = refl
or_four true b false d = refl
or_four false true true d = refl
or_four false true false d = refl
or_four false false true d = refl
or_four false false false d = refl

any_or : {X : Type 0} (p q : X → Bool) (xs : List X) → list_any (λ x. p x || q x) xs ≡ (list_any p xs || list_any q xs)
any_or p q [] = refl
any_or p q (x ∷ xs) = ap (λ b. (p x || q x) || b) (any_or p q xs) ∙ or_four (p x) (q x) (list_any p xs) (list_any q xs)

-- tests that answer alike find alike
pub any_same : {X : Type 0} (p q : X → Bool) (same : (x : X) → p x ≡ q x) (xs : List X) → list_any p xs ≡ list_any q xs
any_same p q same [] = refl
any_same p q same (x ∷ xs) = λ i. same x i || any_same p q same xs i

any_false : {X : Type 0} (xs : List X) → list_any (λ x. false) xs ≡ false
any_false [] = refl
any_false (x ∷ xs) = any_false xs

among_turned : (one other : List Object) → list_any (is_among other) one ≡ list_any (is_among one) other
among_turned [] other = sym (any_false other)
among_turned (x ∷ one) other =
    (λ i. any_same (is_object x) (λ object. is_object object x) (object_turned x) other i || among_turned one other i)
    ∙ sym (any_or (λ object. is_object object x) (is_among one) other)

-- one of the objects that a change covers was noted, where one of those noted is covered
pub reads_covered : (noted : List Object) (change : Change) → list_any (is_among noted) (footprint_of (covered_by change)) ≡ list_any (λ object. covers object change) noted
reads_covered noted change =
    sym (among_turned noted (footprint_of (covered_by change)))
    ∙ any_same (is_among (footprint_of (covered_by change))) (λ object. covers object change) (λ object. among_footprint (covered_by change) object ∙ among_covered change object) noted
