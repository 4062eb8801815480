-- What changes make of a state.
use Rattle.std.specs.Prelude.{ℕ, List, [], ◌∷◌, Option, Some, None}
use Rattle.std.specs.BTreeMap.{is_at, insert_entry}
use Rattle.std.specs.Map.{set_value, remove_entry}
use Rattle.rls_expr.specs.rls_value.specs.declared.row.RowId.{RowId}
use Rattle.rls_expr.specs.rls_value.specs.Names.{postgres}
use Rattle.rls_catalog.specs.declared.stored.Keyed.{Keyed}
use Rattle.rls_catalog.specs.declared.change.Change.{Change}
use Rattle.rls_catalog.specs.declared.change.Change.TheVariants as c
use Rattle.rls_catalog.specs.declared.change.RowChange.{RowChange}
use Rattle.rls_catalog.specs.State.{State, name_order, id_order, at}
use Rattle.std.specs.Prelude.{true}

-- the opening state: the role postgres, which may do everything, and nothing else
abbrev pub opening : State
opening = record { roles = (postgres, record { superuser = true; login = true; bypass_rls = true }) ∷ []; members = []; tables = []; grants = []; policies = []; rows = [] }

-- the rows of a table, with that content at the number; none takes the row away
abbrev pub with_row : RowId → Option Keyed → List (RowId × Keyed) → List (RowId × Keyed)
with_row id (Some keyed) rows = insert_entry id_order rows id keyed
with_row id None rows = remove_entry (is_at (id_order id)) rows

-- a table's first row
abbrev pub with_first_row : List ℕ → RowId → Option Keyed → List (List ℕ × List (RowId × Keyed)) → List (List ℕ × List (RowId × Keyed))
with_first_row table id (Some keyed) tables = insert_entry name_order tables table ((id, keyed) ∷ [])
with_first_row table id None tables = tables

-- the rows of a table with another content at the number, in a table that has rows or has none yet
abbrev pub with_row_in : List ℕ → RowId → Option Keyed → Option (List (RowId × Keyed)) → List (List ℕ × List (RowId × Keyed)) → List (List ℕ × List (RowId × Keyed))
with_row_in table id content (Some rows) tables = set_value (is_at (name_order table)) tables (with_row id content rows)
with_row_in table id content None tables = with_first_row table id content tables

-- the rows of all tables after a change of one
abbrev pub rows_changed : List (List ℕ × List (RowId × Keyed)) → RowChange → List (List ℕ × List (RowId × Keyed))
rows_changed tables change = with_row_in change.table change.id change.after (at change.table tables) tables

-- the state with these rows of a table
abbrev pub with_rows : List ℕ → List (RowId × Keyed) → State → State
with_rows table rows s = record s { rows = insert_entry name_order s.rows table rows }

-- the state after a change
abbrev pub changed : State → Change → State
changed s (c.Role name def) = record s { roles = insert_entry name_order s.roles name def }
changed s (c.Members name content) = record s { members = insert_entry name_order s.members name content }
changed s (c.Table name def) = record s { tables = insert_entry name_order s.tables name def }
changed s (c.Grants name content) = record s { grants = insert_entry name_order s.grants name content }
changed s (c.Policies name content) = record s { policies = insert_entry name_order s.policies name content }
changed s (c.Row change) = record s { rows = rows_changed s.rows change }

-- the state after changes, one after another
abbrev pub changed_all : State → List Change → State
changed_all s [] = s
changed_all s (change ∷ more) = changed_all (changed s change) more
