-- The rows of a table stand in order of their numbers, each number once.
use Rattle.std.specs.Prelude.{ℕ, List}
use Rattle.std.specs.List.Sorted.{IsStrictlySortedBy}
use Rattle.std.specs.Map.{keys_of}
use Rattle.rls_expr.specs.rls_value.specs.declared.row.RowId.{RowId}
use Rattle.rls_catalog.specs.State.{State, id_order, at, or_none}

-- the numbers ascend
abbrev pub Ascend : {X : Type 0} → List (RowId × X) → Type 0
Ascend entries = IsStrictlySortedBy id_order (keys_of entries)

-- the rows of the table stand in order of their numbers, each number once
abbrev pub RowsInOrder : State → List ℕ → Type 0
RowsInOrder s table = Ascend (or_none (at table s.rows))
