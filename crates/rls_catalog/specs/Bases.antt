-- The places that changes overwrite, which of them an object shows, and which changes an object is covered by.
use Rattle.std.specs.Prelude.{◌≡◌, ℕ, List, [], ◌∷◌, Option, Some, None, Bool, false, ◌&&◌, ◌||◌, nat_eq}
use Rattle.std.specs.BTreeMap.{is_at}
use Rattle.std.specs.List.{list_any}
use Rattle.std.specs.Map.{lookup}
use Rattle.std.specs.Str.{bytes_eq}
use Rattle.rls_expr.specs.rls_value.specs.{declared.row.RowId.RowId, declared.value.Value.Value, declared.object.Object.Object}
use Rattle.rls_expr.specs.rls_value.specs.declared.object.Object.TheVariants as o
use Rattle.rls_catalog.specs.{declared.stored.Keyed.Keyed, declared.change.Change.Change, Changed.changed}
use Rattle.rls_catalog.specs.declared.change.Change.TheVariants as c
use Rattle.rls_catalog.specs.State.{State, id_order, at, or_none, is_same_row}

-- a place that a change overwrites
pub data Base : Type 0 where
  Role : (name : List ℕ) → Base
  Members : (member : List ℕ) → Base
  Table : (name : List ℕ) → Base
  Grants : (table : List ℕ) → Base
  Policies : (table : List ℕ) → Base
  Row : (table : List ℕ) → (id : RowId) → Base

-- the place that the change overwrites
abbrev pub base_of : Change → Base
base_of (c.Role name def) = Role name
base_of (c.Members member content) = Members member
base_of (c.Table name def) = Table name
base_of (c.Grants table content) = Grants table
base_of (c.Policies table content) = Policies table
base_of (c.Row row) = Row row.table row.id

-- what stood at the place, as far as objects tell contents apart: a row with its key, none where there was no row; of
-- a catalogue object nothing, since its place is shown whatever stands there
abbrev pub before_of : Change → Option Keyed
before_of (c.Row row) = row.before
before_of _ = None

-- what stands at the place after the change, in the same way
abbrev pub after_of : Change → Option Keyed
after_of (c.Row row) = row.after
after_of _ = None

-- there is such a row, and it has the key
abbrev pub has_key : Option Keyed → List Value → Bool
has_key (Some keyed) key = is_same_row keyed.key key
has_key None key = false

-- the two row numbers are the same
abbrev pub is_number : RowId → RowId → Bool
is_number id other = nat_eq id.txn other.txn && nat_eq id.n other.n

-- whether the object shows what stands at the place: its own place and, of a table, the place of each row, or of each
-- row that has the key
abbrev pub shows : Object → Base → Option Keyed → Bool
shows (o.Role name) (Role other) content = bytes_eq name other
shows (o.Members member) (Members other) content = bytes_eq member other
shows (o.Table name) (Table other) content = bytes_eq name other
shows (o.Grants table) (Grants other) content = bytes_eq table other
shows (o.Policies table) (Policies other) content = bytes_eq table other
shows (o.Rows table) (Row other id) content = bytes_eq table other
shows (o.Key table key) (Row other id) content = bytes_eq table other && has_key content key
shows (o.RowOf table number) (Row other id) content = bytes_eq table other && is_number number id
shows _ _ _ = false

-- whether the object is covered by the change: it shows what stood at the changed place, or what stands there now
abbrev pub covers : Object → Change → Bool
covers object change = shows object (base_of change) (before_of change) || shows object (base_of change) (after_of change)

-- the content at a row's number, if there is such a row
abbrev pub row_at : State → List ℕ → RowId → Option Keyed
row_at s table id = lookup (is_at (id_order id)) (or_none (at table s.rows))

-- what stands at the place in a state, in the same way
abbrev pub content_at : State → Base → Option Keyed
content_at s (Row table id) = row_at s table id
content_at s _ = None

-- the change names as before what stands at its place
abbrev pub Fits : State → Change → Type 0
Fits s change = content_at s (base_of change) ≡ before_of change

-- each of the changes names as before what the earlier ones leave at its place
abbrev pub FitsAll : State → List Change → Type 0
FitsAll s [] = Unit {0}
FitsAll s (change ∷ more) = Fits s change × FitsAll (changed s change) more

-- whether the object is covered by one of the changes
abbrev pub covers_any : Object → List Change → Bool
covers_any object changes = list_any (covers object) changes
