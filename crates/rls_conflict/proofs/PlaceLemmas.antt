-- A change that is put on changes what stands at its place, and nothing else, where rows stand in order.
use Rattle.std.specs.Prelude.{◌≡◌, refl, ℕ, List, Option, Some, None, Bool, true, false, cond, ◌&&◌}
use Rattle.std.specs.BTreeMap.{is_at}
use Rattle.std.specs.Map.{keys_of}
use Rattle.std.proofs.Common.{ap, sym, subst, ◌∙◌}
use Rattle.std.proofs.{lemmas.Map.lookup-remove_entry, lemmas.Map.Keys.IsDistinct-from_sorted}
use Rattle.std.proofs.lemmas.Bool.{true≢false, and_parts}
use Rattle.std.proofs.lemmas.Cmp.{tied_itself, nat_list_cmp_total, eq_by_cmp_equiv}
use Rattle.std.specs.Ordering.{is_eq}
use Rattle.rls_value.specs.declared.row.RowId.{RowId}
use Rattle.rls_catalog.specs.{declared.stored.Keyed.Keyed, declared.change.Change.Change, InOrder.Ascend}
use Rattle.rls_catalog.specs.declared.change.Change.TheVariants as c
use Rattle.rls_catalog.specs.Changed.{changed, with_row}
use Rattle.rls_catalog.specs.State.{State, id_order, is_same_id, entries_of}
use Rattle.rls_catalog.specs.Bases.{Base, base_of}
use Rattle.rls_catalog.proofs.ContentsLaws.{is_name, same_name, role_of_changed, members_of_changed, table_of_changed, grants_of_changed, policies_of_changed}
use Rattle.rls_catalog.proofs.RowsChanged.{entries_of_changed}
use Rattle.rls_catalog.proofs.Places.{id_total}
use Rattle.rls_conflict.proofs.RowLemmas.{own_number, one_number, put_ascends, gone_ascends, found, found_put}
use Rattle.rls_catalog.specs.Contents.{Content, look, now_of, is_place}
use Rattle.rls_conflict.specs.States.{InOrder}

-- ---- places

own_name : (name : List ℕ) → is_name name name ≡ true
own_name name = ap is_eq (tied_itself nat_list_cmp_total name)

no : {A : Type 0} → false ≡ true → A
no is = absurd (true≢false (sym is))

pub one_place : (a b : Base) → is_place a b ≡ true → a ≡ b
one_place (Base.Role name) (Base.Role other) is = ap Base.Role (same_name name other is)
one_place (Base.Members name) (Base.Members other) is = ap Base.Members (same_name name other is)
one_place (Base.Table name) (Base.Table other) is = ap Base.Table (same_name name other is)
one_place (Base.Grants name) (Base.Grants other) is = ap Base.Grants (same_name name other is)
one_place (Base.Policies name) (Base.Policies other) is = ap Base.Policies (same_name name other is)
one_place (Base.Row table id) (Base.Row other number) is =
    let parts = and_parts (is_name table other) (is_same_id id number) is in
    λ i. Base.Row (same_name table other parts.0 i) (one_number id number parts.1 i)
one_place _ _ is = no is

pub own_place : (a : Base) → is_place a a ≡ true
own_place (Base.Role name) = own_name name
own_place (Base.Members name) = own_name name
own_place (Base.Table name) = own_name name
own_place (Base.Grants name) = own_name name
own_place (Base.Policies name) = own_name name
own_place (Base.Row table id) = ap (λ b. b && is_same_id id id) (own_name table) ∙ own_number id

-- ---- rows in order

with_row_ascends : (id : RowId) (keyed : Option Keyed) (rows : List (RowId × Keyed)) → Ascend rows → Ascend (with_row id keyed rows)
with_row_ascends id (Some keyed) rows ascend = put_ascends id keyed rows ascend
with_row_ascends id None rows ascend = gone_ascends id rows ascend

ascend_if : (b : Bool) (new old : List (RowId × Keyed)) → Ascend new → Ascend old → Ascend (cond b new old)
ascend_if true new old n o = n
ascend_if false new old n o = o

pub stays_in_order : (change : Change) (s : State) → InOrder s → InOrder (changed s change)
stays_in_order (c.Role name def) s ordered table = ordered table
stays_in_order (c.Members name def) s ordered table = ordered table
stays_in_order (c.Table name def) s ordered table = ordered table
stays_in_order (c.Grants name def) s ordered table = ordered table
stays_in_order (c.Policies name def) s ordered table = ordered table
stays_in_order (c.Row row) s ordered table =
    subst Ascend (sym (entries_of_changed s row table))
    (ascend_if (is_name table row.table) (with_row row.id row.after (entries_of s table)) (entries_of s table) (with_row_ascends row.id row.after (entries_of s table) (ordered table)) (ordered table))

-- ---- what a change leaves

turned_id : (id other : RowId) → is_same_id id other ≡ is_same_id other id
turned_id id other = (eq_by_cmp_equiv id_total).symm id other

found_in_row : (id put : RowId) (keyed : Option Keyed) (rows : List (RowId × Keyed)) → Ascend rows → found id (with_row put keyed rows) ≡ cond (is_same_id id put) keyed (found id rows)
found_in_row id put (Some keyed) rows ascend = found_put id put keyed rows
found_in_row id put None rows ascend =
    lookup-remove_entry (eq_by_cmp_equiv id_total) (is_at (id_order put)) (λ x y same. (eq_by_cmp_equiv id_total).congr put x y same) id rows (IsDistinct-from_sorted id_order (keys_of rows) ascend)
    ∙ ap (λ b. cond b None (found id rows)) (turned_id put id)

row_if : (b : Bool) (id put : RowId) (keyed : Option Keyed) (rows : List (RowId × Keyed)) → Ascend rows
    → Content.Row (found id (cond b (with_row put keyed rows) rows)) ≡ cond (b && is_same_id id put) (Content.Row keyed) (Content.Row (found id rows))
row_if true id put keyed rows ascend = ap Content.Row (found_in_row id put keyed rows ascend) ∙ inside (is_same_id id put)
  where
    inside : (b : Bool) → Content.Row (cond b keyed (found id rows)) ≡ cond b (Content.Row keyed) (Content.Row (found id rows))
    inside true = refl
    inside false = refl
row_if false id put keyed rows ascend = refl

inside : {X : Type 0} (make : X → Content) (b : Bool) (new old : X) → make (cond b new old) ≡ cond b (make new) (make old)
inside make true new old = refl
inside make false new old = refl

pub look_changed : (change : Change) (s : State) → InOrder s → (place : Base) → look (changed s change) place ≡ cond (is_place place (base_of change)) (now_of change) (look s place)
look_changed (c.Role name def) s ordered (Base.Role q) = ap Content.Role (role_of_changed s name def q) ∙ inside Content.Role (is_name q name) (Some def) _
look_changed (c.Members name def) s ordered (Base.Members q) = ap Content.Members (members_of_changed s name def q) ∙ inside Content.Members (is_name q name) def _
look_changed (c.Table name def) s ordered (Base.Table q) = ap Content.Table (table_of_changed s name def q) ∙ inside Content.Table (is_name q name) (Some def) _
look_changed (c.Grants name def) s ordered (Base.Grants q) = ap Content.Grants (grants_of_changed s name def q) ∙ inside Content.Grants (is_name q name) def _
look_changed (c.Policies name def) s ordered (Base.Policies q) = ap Content.Policies (policies_of_changed s name def q) ∙ inside Content.Policies (is_name q name) def _
look_changed (c.Row row) s ordered (Base.Row table id) =
    ap (λ rows. Content.Row (found id rows)) (entries_of_changed s row table)
    ∙ row_if (is_name table row.table) id row.id row.after (entries_of s table) (ordered table)
look_changed (c.Role name def) s ordered (Base.Members q) = refl
look_changed (c.Role name def) s ordered (Base.Table q) = refl
look_changed (c.Role name def) s ordered (Base.Grants q) = refl
look_changed (c.Role name def) s ordered (Base.Policies q) = refl
look_changed (c.Role name def) s ordered (Base.Row table id) = refl
look_changed (c.Members name def) s ordered (Base.Role q) = refl
look_changed (c.Members name def) s ordered (Base.Table q) = refl
look_changed (c.Members name def) s ordered (Base.Grants q) = refl
look_changed (c.Members name def) s ordered (Base.Policies q) = refl
look_changed (c.Members name def) s ordered (Base.Row table id) = refl
look_changed (c.Table name def) s ordered (Base.Role q) = refl
look_changed (c.Table name def) s ordered (Base.Members q) = refl
look_changed (c.Table name def) s ordered (Base.Grants q) = refl
look_changed (c.Table name def) s ordered (Base.Policies q) = refl
look_changed (c.Table name def) s ordered (Base.Row table id) = refl
look_changed (c.Grants name def) s ordered (Base.Role q) = refl
look_changed (c.Grants name def) s ordered (Base.Members q) = refl
look_changed (c.Grants name def) s ordered (Base.Table q) = refl
look_changed (c.Grants name def) s ordered (Base.Policies q) = refl
look_changed (c.Grants name def) s ordered (Base.Row table id) = refl
look_changed (c.Policies name def) s ordered (Base.Role q) = refl
look_changed (c.Policies name def) s ordered (Base.Members q) = refl
look_changed (c.Policies name def) s ordered (Base.Table q) = refl
look_changed (c.Policies name def) s ordered (Base.Grants q) = refl
look_changed (c.Policies name def) s ordered (Base.Row table id) = refl
look_changed (c.Row row) s ordered (Base.Role q) = refl
look_changed (c.Row row) s ordered (Base.Members q) = refl
look_changed (c.Row row) s ordered (Base.Table q) = refl
look_changed (c.Row row) s ordered (Base.Grants q) = refl
look_changed (c.Row row) s ordered (Base.Policies q) = refl
