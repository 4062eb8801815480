-- What two states have in common, where a script rebuilt one from the other: all but the numbers of rows.
use Rattle.std.specs.Prelude.{◌≡◌, ℕ, List, [], ◌∷◌, map}
use Rattle.std.specs.List.{All}
use Rattle.rls_value.specs.declared.object.Object.TheVariants as o
use Rattle.rls_value.specs.declared.value.Value.{Value}
use Rattle.rls_catalog.specs.State.{AgreesOn, State, rows_of}
use Rattle.rls_lint.specs.Users.{roles_of}

-- the tables of the state
abbrev pub tables_of : State → List (List ℕ)
tables_of s = map (λ entry. entry.0) s.tables

-- the two have the same names, in order
abbrev pub AreSameNames : {X : Type 0} → List (List ℕ × X) → List (List ℕ × X) → Type 0
AreSameNames entries others = map (λ entry. entry.0) entries ≡ map (λ entry. entry.0) others

-- the table's rows, in the order of their numbers
abbrev pub values_of : State → List ℕ → List (List Value)
values_of s table = map (λ stored. stored.row) (rows_of s table)

-- the role has the same attributes and memberships
abbrev pub IsSameRole : State → State → List ℕ → Type 0
IsSameRole s other role = AgreesOn s other (o.Role role ∷ o.Members role ∷ [])

-- the table has the same definition, grants and policies, and the same rows in the same order
abbrev pub IsSameTable : State → State → List ℕ → Type 0
IsSameTable s other table = AgreesOn s other (o.Table table ∷ o.Grants table ∷ o.Policies table ∷ []) × (values_of s table ≡ values_of other table)

-- the two have the same roles and tables, and each of them is the same
pub record HaveSameContents (s other : State) : Type 0 where
  pub roles : AreSameNames s.roles other.roles
  pub tables : AreSameNames s.tables other.tables
  pub each_role : All (IsSameRole s other) (roles_of s)
  pub each_table : All (IsSameTable s other) (tables_of s)
