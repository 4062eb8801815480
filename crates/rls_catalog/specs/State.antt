-- A state: what each object of the database has as its content. Each field lists keys with contents, and the
-- first entry of a key counts.
use Rattle.std.specs.Prelude.{◌≡◌, ℕ, ◌&&◌, List, [], ◌∷◌, Option, Some, None, Bool, true, false, filter, map}
use Rattle.std.specs.BTreeMap.{is_at}
use Rattle.std.specs.Map.{lookup}
use Rattle.std.specs.Ordering.{nat_cmp, int_eq, ordering_then}
use Rattle.std.specs.Cmp.Lexicographic.{slice_cmp}
use Rattle.std.specs.declared.cmp.Ordering.{Ordering}
use Rattle.std.specs.Str.{bytes_eq}
use Rattle.rls_expr.specs.rls_value.specs.{declared.row.RowId.RowId, declared.object.Object.Object, declared.value.Value.Value, Values.same_flag}
use Rattle.rls_expr.specs.rls_value.specs.declared.object.Object.TheVariants as o
use Rattle.rls_expr.specs.rls_value.specs.declared.value.Value.TheVariants as v
use Rattle.rls_expr.specs.{declared.table.TableDef.TableDef, declared.policy.Policy.Policy}
use Rattle.rls_catalog.specs.{declared.role.RoleDef.RoleDef, declared.role.Membership.Membership, declared.grant.Grant.Grant, declared.stored.Keyed.Keyed, declared.stored.Stored.Stored}

-- the contents of all objects
pub record State : Type 0 where
  pub roles : List (List ℕ × RoleDef)
  -- by member
  pub members : List (List ℕ × List Membership)
  pub tables : List (List ℕ × TableDef)
  -- by table
  pub grants : List (List ℕ × List Grant)
  -- by table
  pub policies : List (List ℕ × List Policy)
  -- by table, and there by number
  pub rows : List (List ℕ × List (RowId × Keyed))

-- names are ordered by their bytes
abbrev pub name_order : List ℕ → List ℕ → Ordering
name_order = slice_cmp nat_cmp

-- rows are ordered by their transaction, and there by their place
abbrev pub id_order : RowId → RowId → Ordering
id_order a b = ordering_then (nat_cmp a.txn b.txn) (nat_cmp a.n b.n)

-- the content under the name
abbrev pub at : {X : Type 0} → List ℕ → List (List ℕ × X) → Option X
at name entries = lookup (is_at (name_order name)) entries

-- the list, or none at all
abbrev pub or_none : {X : Type 0} → Option (List X) → List X
or_none (Some xs) = xs
or_none None = []

-- a row under its number
abbrev pub stored_of : RowId × Keyed → Stored
stored_of entry = record { id = entry.0; key = entry.1.key; row = entry.1.row }

-- the role, if there is one
abbrev pub role_of : State → List ℕ → Option RoleDef
role_of s name = at name s.roles

-- the memberships that the role has
abbrev pub members_of : State → List ℕ → List Membership
members_of s member = or_none (at member s.members)

-- the table, if there is one
abbrev pub table_of : State → List ℕ → Option TableDef
table_of s name = at name s.tables

-- the grants on the table
abbrev pub grants_of : State → List ℕ → List Grant
grants_of s table = or_none (at table s.grants)

-- the policies of the table, in byte order of their names
abbrev pub policies_of : State → List ℕ → List Policy
policies_of s table = or_none (at table s.policies)

-- the rows of the table, in order of their numbers
abbrev pub rows_of : State → List ℕ → List Stored
rows_of s table = map stored_of (or_none (at table s.rows))

-- the rows of the table, by number
abbrev pub entries_of : State → List ℕ → List (RowId × Keyed)
entries_of s table = or_none (at table s.rows)

-- the same value, null being equal to itself
abbrev pub is_same_value : Value → Value → Bool
is_same_value v.Null v.Null = true
is_same_value (v.Int a) (v.Int b) = int_eq a b
is_same_value (v.Text a) (v.Text b) = bytes_eq a b
is_same_value (v.Bool a) (v.Bool b) = same_flag a b
is_same_value _ _ = false

-- the same values
abbrev pub is_same_row : List Value → List Value → Bool
is_same_row [] [] = true
is_same_row (x ∷ xs) (y ∷ ys) = is_same_value x y && is_same_row xs ys
is_same_row _ _ = false

-- those rows that have the key
abbrev pub with_key : List Value → List Stored → List Stored
with_key key rows = filter (λ stored. is_same_row stored.key key) rows

-- the rows of the table that have the key
abbrev pub rows_with_key : State → List ℕ → List Value → List Stored
rows_with_key s table key = with_key key (rows_of s table)

-- the same number
abbrev pub is_same_id : RowId → RowId → Bool
is_same_id a b = is_at (id_order a) b

-- the row of that number, as a list of at most one
abbrev pub row_of : State → List ℕ → RowId → List Stored
row_of s table id = filter (λ stored. is_same_id id stored.id) (rows_of s table)

-- the two states have the same content there
abbrev pub AgreesAt : State → State → Object → Type 0
AgreesAt s other (o.Role name) = role_of s name ≡ role_of other name
AgreesAt s other (o.Members member) = members_of s member ≡ members_of other member
AgreesAt s other (o.Table name) = table_of s name ≡ table_of other name
AgreesAt s other (o.Grants table) = grants_of s table ≡ grants_of other table
AgreesAt s other (o.Policies table) = policies_of s table ≡ policies_of other table
AgreesAt s other (o.Rows table) = rows_of s table ≡ rows_of other table
AgreesAt s other (o.Key table key) = rows_with_key s table key ≡ rows_with_key other table key
AgreesAt s other (o.RowOf table id) = row_of s table id ≡ row_of other table id

-- the two states have the same content at each of the objects
abbrev pub AgreesOn : State → State → List Object → Type 0
AgreesOn s other [] = Unit {0}
AgreesOn s other (object ∷ objects) = AgreesAt s other object × AgreesOn s other objects
