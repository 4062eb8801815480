-- Rows as they have to stand in a state: in tables that there are, in order of their numbers, each with its own primary
-- key, which is unique and not null (PostgreSQL manual, 5.4, "Primary Keys").
use Rattle.std.specs.Prelude.{◌≡◌, ℕ, List, [], Option, Some, None, Bool, true, false, map, slice_get}
use Rattle.std.specs.BTreeMap.{is_at}
use Rattle.std.specs.List.{All, list_any}
use Rattle.std.specs.Map.{lookup}
use Rattle.rls_expr.specs.rls_value.specs.declared.row.RowId.{RowId}
use Rattle.rls_expr.specs.rls_value.specs.Values.{is_null, value_at}
use Rattle.rls_expr.specs.declared.table.Column.{Column}
use Rattle.rls_expr.specs.declared.table.TableDef.{TableDef}
use Rattle.rls_catalog.specs.declared.stored.Keyed.{Keyed}
use Rattle.rls_catalog.specs.State.{State, id_order, table_of, entries_of}
use Rattle.rls_catalog.specs.InOrder.{Ascend}

-- whether a column is there that takes no null
abbrev pub takes_no_null : Option Column → Bool
takes_no_null (Some column) = column.not_null
takes_no_null None = false

-- the row stands at the number
abbrev pub StandsAt : List (RowId × Keyed) → RowId → Keyed → Type 0
StandsAt rows id keyed = lookup (is_at (id_order id)) rows ≡ Some keyed

-- the row is stored with its own key: its values in the columns of the primary key, none of them null
pub record CarriesKey (table : TableDef) (keyed : Keyed) : Type 0 where
  pub own : keyed.key ≡ map (value_at keyed.row) table.key
  pub no_null : list_any is_null keyed.key ≡ false

-- rows that have the same key are one row
abbrev pub KeysAreUnique : List (RowId × Keyed) → Type 0
KeysAreUnique rows = (id other : RowId) (keyed same : Keyed) → StandsAt rows id keyed → StandsAt rows other same → keyed.key ≡ same.key → id ≡ other

-- the rows of a table
pub record AreSound (table : TableDef) (rows : List (RowId × Keyed)) : Type 0 where
  -- the columns of its primary key take no null
  pub key : All (λ place. takes_no_null (slice_get table.columns place) ≡ true) table.key
  -- its rows stand in order of their numbers, each number once
  pub ordered : Ascend rows
  pub carried : (id : RowId) (keyed : Keyed) → StandsAt rows id keyed → CarriesKey table keyed
  -- a table without a primary key may have the same row twice
  pub unique : ¬ (table.key ≡ []) → KeysAreUnique rows

-- where there is no table, there are no rows
abbrev pub AreSoundIn : Option TableDef → List (RowId × Keyed) → Type 0
AreSoundIn None rows = rows ≡ []
AreSoundIn (Some table) rows = AreSound table rows

-- the rows of each table
abbrev pub RowsAreSound : State → Type 0
RowsAreSound s = (name : List ℕ) → AreSoundIn (table_of s name) (entries_of s name)
