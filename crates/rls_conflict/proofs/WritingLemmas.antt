-- Changes that write an object in common.
use Rattle.std.specs.Prelude.{◌≡◌, refl, ℕ, List, [], ◌∷◌, ◌++◌, Some, Bool, true, not, map}
use Rattle.std.specs.BTreeMap.{is_at}
use Rattle.std.specs.List.{list_any}
use Rattle.std.specs.Ordering.{is_eq}
use Rattle.std.specs.declared.cmp.Ordering.{Ordering}
use Rattle.std.specs.declared.cmp.Ordering.TheVariants.{Less, Equal, Greater}
use Rattle.std.proofs.Common.{ap, sym, subst, ◌∙◌, inl, inr}
use Rattle.std.proofs.lemmas.Bool.{true≢false, or_cases, or_left, or_right, and_parts, and_from}
use Rattle.std.proofs.lemmas.Cmp.{tied_itself}
use Rattle.rls_value.specs.{declared.row.RowId.RowId, declared.object.Object.Object, Objects.object_order, ObjectOrder.objects_total}
use Rattle.rls_value.specs.declared.object.Object.TheVariants as o
use Rattle.rls_value.specs.declared.value.Value.{Value}
use Rattle.rls_value.proofs.ObjectOrderLaws.{objects_same}
use Rattle.rls_catalog.specs.{declared.stored.Keyed.Keyed, declared.change.Change.Change}
use Rattle.rls_catalog.specs.declared.change.Change.TheVariants as c
use Rattle.rls_catalog.specs.Bases.{Base, base_of}
use Rattle.rls_catalog.specs.Writes.{writes, is_written, key_of_row}
use Rattle.rls_history.specs.States.{IsAmong}
use Rattle.rls_catalog.specs.Contents.{Content, now_of}
use Rattle.rls_conflict.specs.Written.{is_no_key, is_updated, write_one_object}

pub equal_if : (order : Ordering) → is_eq order ≡ true → order ≡ Equal
equal_if Less is = absurd (true≢false (sym is))
equal_if Equal is = refl
equal_if Greater is = absurd (true≢false (sym is))

in_right : {X : Type 0} (x : X) (xs ys : List X) → IsAmong x ys → IsAmong x (xs ++ ys)
in_right x [] ys i = i
in_right x (y ∷ xs) ys i = inr (in_right x xs ys i)

pub any_from_in : {X : Type 0} (test : X → Bool) (x : X) (xs : List X) → IsAmong x xs → test x ≡ true → list_any test xs ≡ true
any_from_in test x [] i is = absurd i
any_from_in test x (y ∷ xs) i is = elim i [
  | inl same ↦ or_left (test y) (list_any test xs) (ap test (sym same) ∙ is)
  | inr more ↦ or_right (test y) (list_any test xs) (any_from_in test x xs more is)
]

pub in_from_any : {X : Type 0} (test : X → Bool) (xs : List X) → list_any test xs ≡ true → (x : X) × IsAmong x xs × (test x ≡ true)
in_from_any test [] is = absurd (true≢false (sym is))
in_from_any test (y ∷ xs) is = elim (or_cases (test y) (list_any test xs) is) [
  | inl here ↦ (y, inl refl, here)
  | inr later ↦ (let r = in_from_any test xs later in (r.0, inr (r.1), r.2))
]

-- an object that both write
pub write_shared : (change other : Change) (object : Object) → not (is_no_key object) ≡ true → IsAmong object (writes change) → IsAmong object (writes other) → write_one_object change other ≡ true
write_shared change other object has i j =
    any_from_in (λ x. is_updated x other) object (writes change) i
    (and_from (not (is_no_key object)) (is_written object other) has (any_from_in (is_at (object_order object)) object (writes other) j (ap is_eq (tied_itself objects_total object))))

pub write_turned : (change other : Change) → write_one_object change other ≡ true → write_one_object other change ≡ true
write_turned change other is =
    let a = in_from_any (λ x. is_updated x other) (writes change) is in
    let parts = and_parts (not (is_no_key a.0)) (is_written a.0 other) (a.2) in
    let b = in_from_any (is_at (object_order a.0)) (writes other) parts.1 in
    let same : a.0 ≡ b.0 = objects_same (a.0) (b.0) (equal_if (object_order (a.0) (b.0)) (b.2)) in
    write_shared other change (b.0) (ap (λ x. not (is_no_key x)) (sym same) ∙ parts.0) (b.1) (subst (λ x. IsAmong x (writes change)) same (a.1))

object_of : Base → Object
object_of (Base.Role name) = o.Role name
object_of (Base.Members name) = o.Members name
object_of (Base.Table name) = o.Table name
object_of (Base.Grants name) = o.Grants name
object_of (Base.Policies name) = o.Policies name
object_of (Base.Row table id) = o.RowOf table id

own_kept : (base : Base) → not (is_no_key (object_of base)) ≡ true
unfolding object_of
own_kept (Base.Role name) = refl
own_kept (Base.Members name) = refl
own_kept (Base.Table name) = refl
own_kept (Base.Grants name) = refl
own_kept (Base.Policies name) = refl
own_kept (Base.Row table id) = refl

-- a key of some columns
pub key_kept : (table columns : List ℕ) (value : ℕ → Value) → ¬ (columns ≡ []) → not (is_no_key (o.Key table (map value columns))) ≡ true
key_kept table [] value has = absurd (has refl)
key_kept table (column ∷ columns) value has = refl

own_written : (change : Change) → IsAmong (object_of (base_of change)) (writes change)
unfolding object_of
own_written (c.Role name def) = inl refl
own_written (c.Members name def) = inl refl
own_written (c.Table name def) = inl refl
own_written (c.Grants name def) = inl refl
own_written (c.Policies name def) = inl refl
own_written (c.Row row) = inl refl

-- two changes of one place
pub write_place : (change other : Change) → base_of change ≡ base_of other → write_one_object change other ≡ true
write_place change other same =
    write_shared change other (object_of (base_of change)) (own_kept (base_of change)) (own_written change) (subst (λ b. IsAmong (object_of b) (writes other)) (sym same) (own_written other))

-- the key of a row that the change puts there
pub key_written : (change : Change) (table : List ℕ) (id : RowId) (keyed : Keyed) → base_of change ≡ Base.Row table id → now_of change ≡ Content.Row (Some keyed) → IsAmong (o.Key table keyed.key) (writes change)
key_written (c.Role name def) table id keyed is now = absurd cc
key_written (c.Members name def) table id keyed is now = absurd cc
key_written (c.Table name def) table id keyed is now = absurd cc
key_written (c.Grants name def) table id keyed is now = absurd cc
key_written (c.Policies name def) table id keyed is now = absurd cc
key_written (c.Row row) table id keyed is now =
    let there : row.table ≡ table = cc in
    let after : row.after ≡ Some keyed = cc in
    inr (in_right (o.Key table keyed.key) (key_of_row row.table row.before) (key_of_row row.table row.after)
    (subst (λ a. IsAmong (o.Key table keyed.key) (key_of_row row.table a)) (sym after) (inl (ap (λ t. o.Key t keyed.key) (sym there)))))
