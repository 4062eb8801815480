-- Rows in order.
use Rattle.std.specs.Prelude.{◌≡◌, ℕ, List, [], Some, None}
use Rattle.std.specs.List.Sorted.{IsStrictlySortedBy}
use Rattle.std.proofs.Common.{subst, sym}
use Rattle.rls_expr.specs.rls_value.specs.declared.row.RowId.{RowId}
use Rattle.rls_catalog.specs.declared.stored.Keyed.{Keyed}
use Rattle.rls_catalog.specs.State.{State, at, or_none}
use Rattle.rls_catalog.specs.InOrder.{Ascend, RowsInOrder}

-- no rows ascend
pub none_ascend : Ascend {X = Keyed} []
unfolding IsStrictlySortedBy
none_ascend = tt

-- the rows of a table are in order where those that stand under its name are
pub some_in_order : (s : State) (table : List ℕ) (rows : List (RowId × Keyed)) → at table s.rows ≡ Some rows → Ascend rows → RowsInOrder s table
some_in_order s table rows found ascend = subst (λ o. Ascend (or_none o)) (sym found) ascend

-- or where none do
pub none_in_order : (s : State) (table : List ℕ) → at table s.rows ≡ None → RowsInOrder s table
none_in_order s table found = subst (λ o. Ascend (or_none o)) (sym found) none_ascend
