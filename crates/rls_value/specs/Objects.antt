-- The order of objects: by kind, then by the name of the role or table, then by the values of the key or the row's number.
-- How objects and row numbers are written.
use Rattle.std.specs.Prelude.{ℕ, List, ◌++◌, codes}
use Rattle.std.specs.Fmt.{decimal}
use Rattle.std.specs.Cmp.Lexicographic.{slice_cmp}
use Rattle.std.specs.Ordering.{nat_cmp, ordering_then}
use Rattle.std.specs.declared.cmp.Ordering.{Ordering}
use Rattle.std.specs.declared.cmp.Ordering.TheVariants.{Equal}
use Rattle.rls_value.specs.declared.object.Object.{Object}
use Rattle.rls_value.specs.declared.object.Object.TheVariants.{Role, Members, Table, Grants, Policies, Rows, Key, RowOf}
use Rattle.rls_value.specs.declared.row.RowId.{RowId}
use Rattle.rls_value.specs.Values.{listed, literals_text}

-- the place of its kind
abbrev pub kind_of : Object → ℕ
kind_of (Role name) = 0
kind_of (Members name) = 1
kind_of (Table name) = 2
kind_of (Grants name) = 3
kind_of (Policies name) = 4
kind_of (Rows name) = 5
kind_of (Key name key) = 6
kind_of (RowOf name id) = 7

-- the name of its role or table
abbrev pub name_of : Object → List ℕ
name_of (Role name) = name
name_of (Members name) = name
name_of (Table name) = name
name_of (Grants name) = name
name_of (Policies name) = name
name_of (Rows name) = name
name_of (Key name key) = name
name_of (RowOf name id) = name

-- keys by their values, rows by their numbers
abbrev pub part_order : Object → Object → Ordering
part_order (Key a k) (Key b l) = slice_cmp listed k l
part_order (RowOf a i) (RowOf b j) = ordering_then (nat_cmp i.txn j.txn) (nat_cmp i.n j.n)
part_order _ _ = Equal

-- by kind, by name, by what is within the table
abbrev pub object_order : Object → Object → Ordering
object_order a b = ordering_then (ordering_then (nat_cmp (kind_of a) (kind_of b)) (slice_cmp nat_cmp (name_of a) (name_of b))) (part_order a b)

-- the number of a row: the transaction, and the place among its insertions
abbrev pub row_id_text : RowId → List ℕ
row_id_text id = decimal id.txn ++ (codes "." ++ decimal id.n)

-- an object as the cause of a serialization failure names it
abbrev pub object_text : Object → List ℕ
object_text (Role name) = codes "role " ++ name
object_text (Members name) = codes "members of " ++ name
object_text (Table name) = codes "table " ++ name
object_text (Grants name) = codes "grants on " ++ name
object_text (Policies name) = codes "policies on " ++ name
object_text (Rows name) = codes "rows of " ++ name
object_text (Key name key) = codes "key (" ++ (literals_text key ++ (codes ") of " ++ name))
object_text (RowOf name id) = codes "row " ++ (row_id_text id ++ (codes " of " ++ name))
