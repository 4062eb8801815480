-- Keys and numbers that tie are the same.
use Rattle.std.specs.Prelude.{◌≡◌, refl, List, true, false}
use Rattle.std.specs.BTreeMap.{is_at}
use Rattle.std.specs.Ordering.{is_eq, ordering_reverse}
use Rattle.std.specs.declared.cmp.Ordering.{Ordering}
use Rattle.std.specs.declared.cmp.Ordering.TheVariants.{Less, Equal, Greater}
use Rattle.std.proofs.Common.{ap, sym, ◌∙◌}
use Rattle.std.proofs.{lemmas.Bool.true≢false, lemmas.Cmp.tied_itself}
use Rattle.rls_expr.specs.rls_value.specs.{declared.row.RowId.RowId, declared.value.Value.Value, Listing.rows_total}
use Rattle.rls_expr.specs.rls_value.proofs.ListingLaws.{rows_same}
use Rattle.rls_catalog.specs.{State.id_order, KeyIndex.key_order}
use Rattle.rls_catalog.proofs.Places.{id_total, same_id}

-- ---- keys that tie are the same

is_tie : (o : Ordering) → is_eq o ≡ true → o ≡ Equal
is_tie Less is = absurd (true≢false (sym is))
is_tie Equal is = refl
is_tie Greater is = absurd (true≢false (sym is))

pub same_key : (key other : List Value) → is_at (key_order key) other ≡ true → key ≡ other
same_key key other is = rows_same key other (is_tie (key_order key other) is)

pub own_key : (key : List Value) → is_at (key_order key) key ≡ true
own_key key = ap is_eq (tied_itself rows_total key)

pub same_number : (id other : RowId) → is_at (id_order id) other ≡ true → id ≡ other
same_number id other is = same_id id other (is_tie (id_order id other) is)

pub own_number : (id : RowId) → is_at (id_order id) id ≡ true
own_number id = ap is_eq (tied_itself id_total id)

turned : (o : Ordering) → is_eq (ordering_reverse o) ≡ is_eq o
turned Less = refl
turned Equal = refl
turned Greater = refl

-- keys are compared either way
pub key_turned : (key other : List Value) → is_at (key_order key) other ≡ is_at (key_order other) key
key_turned key other = ap is_eq (rows_total.antisymm key other) ∙ turned (key_order other key)

pub no : {A : Type 0} → false ≡ true → A
no is = absurd (true≢false (sym is))

pub number_turned : (id other : RowId) → is_at (id_order id) other ≡ is_at (id_order other) id
number_turned id other = ap is_eq (id_total.antisymm id other) ∙ turned (id_order other id)
