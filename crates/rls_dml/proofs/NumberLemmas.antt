-- A set that was made from the numbers of rows.
use Rattle.std.proofs.Common.{◌≡◌, ◌||◌, List, [], ◌∷◌, map, refl, ap, ◌∙◌}
use Rattle.std.specs.BTreeSet.{BTreeSet, IsFromIterResult}
use Rattle.std.specs.List.{list_any}
use Rattle.std.specs.Ordering.{eq_by_cmp}
use Rattle.rls_value.specs.declared.row.RowId.{RowId}
use Rattle.rls_guard.specs.rls_catalog.specs.declared.stored.Stored.{Stored}
use Rattle.rls_guard.specs.rls_catalog.specs.State.{id_order, is_same_id}
use Rattle.rls_dml.specs.Numbers.{has_number, AreNumbers}

numbered : (id : RowId) (rows : List Stored) → list_any (eq_by_cmp id_order id) (map (λ stored. stored.id) rows) ≡ has_number rows id
numbered id [] = refl
numbered id (stored ∷ rows) = ap (λ b. is_same_id id stored.id || b) (numbered id rows)

-- it has the numbers of the rows
pub set_of_numbers : (rows : List Stored) (set : BTreeSet RowId) → IsFromIterResult id_order (map (λ stored. stored.id) rows) set → AreNumbers set.keys rows
set_of_numbers rows set is = λ id. is.0 id ∙ numbered id rows
