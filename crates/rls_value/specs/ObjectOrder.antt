-- The order of objects is a total order.
use Rattle.std.specs.Prelude.{◌≡◌, refl, ℕ, List, []}
use Rattle.std.proofs.Common.{ap, sym, subst}
use Rattle.std.specs.Cmp.{IsTotalOrder}
use Rattle.std.proofs.lemmas.Cmp.{on_total, then_total, nat_cmp_total, nat_list_cmp_total}
use Rattle.std.specs.Cmp.Lexicographic.{slice_cmp}
use Rattle.std.specs.Ordering.{nat_cmp, on, then_cmp, ordering_then}
use Rattle.std.specs.declared.cmp.Ordering.{Ordering}
use Rattle.rls_value.specs.{declared.value.Value.Value, declared.object.Object.Object, Values.listed}
use Rattle.rls_value.specs.declared.object.Object.TheVariants.{Role, Members, Table, Grants, Policies, Rows, Key, RowOf}
use Rattle.rls_value.specs.Listing.{rows_total, then_equal}
use Rattle.rls_value.specs.Objects.{kind_of, name_of, object_order}

-- the values of the key, or none
abbrev pub key_in : Object → List Value
key_in (Key name key) = key
key_in _ = []

-- the transaction of the row's number, or 0
abbrev pub txn_in : Object → ℕ
txn_in (RowOf name id) = id.txn
txn_in _ = 0

-- the place in the row's number, or 0
abbrev pub place_in : Object → ℕ
place_in (RowOf name id) = id.n
place_in _ = 0

-- by the key, then by the row's number
abbrev pub parts_ordered : Object → Object → Ordering
parts_ordered = then_cmp (on key_in (slice_cmp listed)) (then_cmp (on txn_in nat_cmp) (on place_in nat_cmp))

-- by kind and name, then by the parts
abbrev pub ordered : Object → Object → Ordering
ordered = then_cmp (then_cmp (on kind_of nat_cmp) (on name_of (slice_cmp nat_cmp))) parts_ordered

ordered_total : IsTotalOrder ordered
ordered_total = then_total (then_total (on_total kind_of nat_cmp_total) (on_total name_of nat_list_cmp_total)) (then_total (on_total key_in rows_total) (then_total (on_total txn_in nat_cmp_total) (on_total place_in nat_cmp_total)))

pub objects_ordered : (a b : Object) → object_order a b ≡ ordered a b
objects_ordered (Role a) (Role b) = refl
objects_ordered (Role a) (Members b) = refl
objects_ordered (Role a) (Table b) = refl
objects_ordered (Role a) (Grants b) = refl
objects_ordered (Role a) (Policies b) = refl
objects_ordered (Role a) (Rows b) = refl
objects_ordered (Role a) (Key b l) = refl
objects_ordered (Role a) (RowOf b j) = refl
objects_ordered (Members a) (Role b) = refl
objects_ordered (Members a) (Members b) = refl
objects_ordered (Members a) (Table b) = refl
objects_ordered (Members a) (Grants b) = refl
objects_ordered (Members a) (Policies b) = refl
objects_ordered (Members a) (Rows b) = refl
objects_ordered (Members a) (Key b l) = refl
objects_ordered (Members a) (RowOf b j) = refl
objects_ordered (Table a) (Role b) = refl
objects_ordered (Table a) (Members b) = refl
objects_ordered (Table a) (Table b) = refl
objects_ordered (Table a) (Grants b) = refl
objects_ordered (Table a) (Policies b) = refl
objects_ordered (Table a) (Rows b) = refl
objects_ordered (Table a) (Key b l) = refl
objects_ordered (Table a) (RowOf b j) = refl
objects_ordered (Grants a) (Role b) = refl
objects_ordered (Grants a) (Members b) = refl
objects_ordered (Grants a) (Table b) = refl
objects_ordered (Grants a) (Grants b) = refl
objects_ordered (Grants a) (Policies b) = refl
objects_ordered (Grants a) (Rows b) = refl
objects_ordered (Grants a) (Key b l) = refl
objects_ordered (Grants a) (RowOf b j) = refl
objects_ordered (Policies a) (Role b) = refl
objects_ordered (Policies a) (Members b) = refl
objects_ordered (Policies a) (Table b) = refl
objects_ordered (Policies a) (Grants b) = refl
objects_ordered (Policies a) (Policies b) = refl
objects_ordered (Policies a) (Rows b) = refl
objects_ordered (Policies a) (Key b l) = refl
objects_ordered (Policies a) (RowOf b j) = refl
objects_ordered (Rows a) (Role b) = refl
objects_ordered (Rows a) (Members b) = refl
objects_ordered (Rows a) (Table b) = refl
objects_ordered (Rows a) (Grants b) = refl
objects_ordered (Rows a) (Policies b) = refl
objects_ordered (Rows a) (Rows b) = refl
objects_ordered (Rows a) (Key b l) = refl
objects_ordered (Rows a) (RowOf b j) = refl
objects_ordered (Key a k) (Role b) = refl
objects_ordered (Key a k) (Members b) = refl
objects_ordered (Key a k) (Table b) = refl
objects_ordered (Key a k) (Grants b) = refl
objects_ordered (Key a k) (Policies b) = refl
objects_ordered (Key a k) (Rows b) = refl
objects_ordered (Key a k) (Key b l) = ap (ordering_then (slice_cmp nat_cmp a b)) (then_equal (slice_cmp listed k l))
objects_ordered (Key a k) (RowOf b j) = refl
objects_ordered (RowOf a i) (Role b) = refl
objects_ordered (RowOf a i) (Members b) = refl
objects_ordered (RowOf a i) (Table b) = refl
objects_ordered (RowOf a i) (Grants b) = refl
objects_ordered (RowOf a i) (Policies b) = refl
objects_ordered (RowOf a i) (Rows b) = refl
objects_ordered (RowOf a i) (Key b l) = refl
objects_ordered (RowOf a i) (RowOf b j) = refl

-- the order of objects is a total order
pub objects_total : IsTotalOrder object_order
objects_total = subst IsTotalOrder (λ i. λ x y. sym (objects_ordered x y) i) ordered_total
