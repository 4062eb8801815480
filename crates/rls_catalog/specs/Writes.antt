-- What a change writes: the object; or the row, and the keys that it had and has. An object is covered by a change exactly
-- where the change writes it, or where it is the rows of the table whose row changes (`covered_writes`).
use Rattle.std.specs.Prelude.{ℕ, List, [], ◌∷◌, ◌++◌, Option, Some, None, Bool, false}
use Rattle.std.specs.BTreeMap.{is_at}
use Rattle.std.specs.List.{list_any}
use Rattle.std.specs.Str.{bytes_eq}
use Rattle.rls_expr.specs.rls_value.specs.declared.object.Object.{Object}
use Rattle.rls_expr.specs.rls_value.specs.declared.object.Object.TheVariants as o
use Rattle.rls_expr.specs.rls_value.specs.Objects.{object_order}
use Rattle.rls_catalog.specs.declared.stored.Keyed.{Keyed}
use Rattle.rls_catalog.specs.declared.change.Change.{Change}
use Rattle.rls_catalog.specs.declared.change.Change.TheVariants as c

-- the key of a row of the table, if there is a row
abbrev pub key_of_row : List ℕ → Option Keyed → List Object
key_of_row table (Some keyed) = o.Key table keyed.key ∷ []
key_of_row table None = []

-- the objects that the change writes
abbrev pub writes : Change → List Object
writes (c.Role name def) = o.Role name ∷ []
writes (c.Members member content) = o.Members member ∷ []
writes (c.Table name def) = o.Table name ∷ []
writes (c.Grants table content) = o.Grants table ∷ []
writes (c.Policies table content) = o.Policies table ∷ []
writes (c.Row row) = o.RowOf row.table row.id ∷ key_of_row row.table row.before ++ key_of_row row.table row.after

-- the object is one of those that the change writes
abbrev pub is_written : Object → Change → Bool
is_written object change = list_any (is_at (object_order object)) (writes change)

-- the object is the rows of the table that the change is of
abbrev pub is_rows_of : Object → Change → Bool
is_rows_of (o.Rows table) (c.Row row) = bytes_eq table row.table
is_rows_of _ _ = false
