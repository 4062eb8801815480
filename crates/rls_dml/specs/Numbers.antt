-- The numbers of rows.
use Rattle.std.specs.Prelude.{◌≡◌, List, [], ◌∷◌, Bool, true, false, ◌&&◌}
use Rattle.std.specs.List.{list_any}
use Rattle.std.specs.BTreeMap.{is_at}
use Rattle.rls_value.specs.declared.row.RowId.{RowId}
use Rattle.rls_guard.specs.rls_catalog.specs.declared.stored.Stored.{Stored}
use Rattle.rls_guard.specs.rls_catalog.specs.State.{id_order, is_same_id}

-- one of the rows has that number
abbrev pub has_number : List Stored → RowId → Bool
has_number rows id = list_any (λ stored. is_same_id id stored.id) rows

-- the numbers are those of the rows
abbrev pub AreNumbers : List RowId → List Stored → Type 0
AreNumbers numbers rows = (id : RowId) → list_any (is_at (id_order id)) numbers ≡ has_number rows id

-- the rows have the numbers of the others, one by one; there may be more of the others
abbrev pub are_numbered_as : List Stored → List Stored → Bool
are_numbered_as [] others = true
are_numbered_as (row ∷ rows) [] = false
are_numbered_as (row ∷ rows) (other ∷ others) = is_same_id row.id other.id && are_numbered_as rows others
