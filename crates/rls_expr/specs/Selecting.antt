-- The columns that expressions mention, and the tables of subqueries with theirs.
use Rattle.std.specs.Prelude.{◌≡◌, ℕ, zero, suc, nat_eq, List, [], ◌∷◌, ◌++◌, Bool, ◌||◌, if◌then◌else◌}
use Rattle.std.specs.List.{list_any}
use Rattle.std.specs.Option.{option_map_or}
use Rattle.rls_expr.specs.declared.expr.Selects.{Selects}
use Rattle.rls_expr.specs.declared.expr.Selects.TheVariants as s
use Rattle.rls_expr.specs.declared.table.Column.{Column as ColumnOf}
use Rattle.rls_expr.specs.declared.columns.SelectedTable.{SelectedTable}
use Rattle.rls_expr.specs.Parts.{mentions, some_mentions}
use Rattle.rls_expr.specs.Scopes.{InScope, known_table}
use Rattle.rls_expr.specs.Terms.{Term, Terms, Query, Literal, Column, Var, CurrentUser, Compare, And, Or, Not, IsNull, IsNotNull, InList, NotInList, Exists, InSubquery, NotInSubquery, Scalar, Sum, End, More, Select}

-- ---- the columns of a table

-- the name of a column that is wanted
abbrev pub name_if : Bool → ColumnOf → List (List ℕ)
name_if is_wanted column = if is_wanted then column.name ∷ [] else []

-- the names of the columns whose places are wanted, in the table's order, the first column being at this place
abbrev pub names_where : (ℕ → Bool) → ℕ → List ColumnOf → List (List ℕ)
names_where is_wanted place [] = []
names_where is_wanted place (column ∷ columns) = name_if (is_wanted place) column ++ names_where is_wanted (suc place) columns

-- the columns of the target that stand in the expressions, in the table's order
abbrev pub columns_of : List ColumnOf → List Term → List (List ℕ)
columns_of columns terms = names_where (λ place. list_any (mentions (nat_eq place) 0) terms) 0 columns

-- ---- the tables of subqueries

-- the columns of the table of that name; of one that isn't found, none
abbrev pub columns_found : List InScope → List ℕ → List ColumnOf
columns_found found table = option_map_or (λ table. table.columns) (known_table found table) []

-- the column at the place, of a subquery's table, stands in its items or in its WHERE, also inside its own subqueries
abbrev pub selects_column : Query → ℕ → Bool
selects_column (Select from key selects items condition) place = some_mentions (nat_eq place) 0 items || some_mentions (nat_eq place) 0 condition

-- the table of a subquery, with its columns that the subquery mentions
abbrev pub table_selected : List InScope → Query → SelectedTable
table_selected found (Select from key selects items condition) =
    record { table = from.table; columns = names_where (selects_column (Select from key selects items condition)) 0 (columns_found found from.table) }

abbrev mutual
  -- the tables of the subqueries in a resolved expression, with the columns that each mentions, in text order; one before
  -- those inside it
  pub selected_of : List InScope → Term → List SelectedTable
  selected_of found (Literal v) = []
  selected_of found (Column name) = []
  selected_of found (Var at) = []
  selected_of found CurrentUser = []
  selected_of found (Compare how a b) = selected_of found a ++ selected_of found b
  selected_of found (And ts) = selected_all found ts
  selected_of found (Or ts) = selected_all found ts
  selected_of found (Not t) = selected_of found t
  selected_of found (IsNull t) = selected_of found t
  selected_of found (IsNotNull t) = selected_of found t
  selected_of found (InList t ts) = selected_of found t ++ selected_all found ts
  selected_of found (NotInList t ts) = selected_of found t ++ selected_all found ts
  selected_of found (Exists q) = query_selected found q
  selected_of found (InSubquery t q) = selected_of found t ++ query_selected found q
  selected_of found (NotInSubquery t q) = selected_of found t ++ query_selected found q
  selected_of found (Scalar q) = query_selected found q
  selected_of found (Sum signs ts) = selected_all found ts

  -- of a subquery
  pub query_selected : List InScope → Query → List SelectedTable
  query_selected found (Select from key selects items condition) =
      table_selected found (Select from key selects items condition) ∷ (selected_all found items ++ selected_all found condition)

  -- of each of them
  pub selected_all : List InScope → Terms → List SelectedTable
  selected_all found End = []
  selected_all found (More t ts) = selected_of found t ++ selected_all found ts

-- ---- what a text spells

-- beside `*` stand no items
abbrev pub IsBare : Selects → Terms → Type 0
IsBare s.All items = items ≡ End
IsBare s.Count items = Unit {0}
IsBare s.Items items = Unit {0}

abbrev mutual
  -- in each of its subqueries that selects `*` there are no items, as there are none in what is parsed
  pub StarsAreBare : Term → Type 0
  StarsAreBare (Literal v) = Unit {0}
  StarsAreBare (Column name) = Unit {0}
  StarsAreBare (Var at) = Unit {0}
  StarsAreBare CurrentUser = Unit {0}
  StarsAreBare (Compare how a b) = StarsAreBare a × StarsAreBare b
  StarsAreBare (And ts) = AllAreBare ts
  StarsAreBare (Or ts) = AllAreBare ts
  StarsAreBare (Not t) = StarsAreBare t
  StarsAreBare (IsNull t) = StarsAreBare t
  StarsAreBare (IsNotNull t) = StarsAreBare t
  StarsAreBare (InList t ts) = StarsAreBare t × AllAreBare ts
  StarsAreBare (NotInList t ts) = StarsAreBare t × AllAreBare ts
  StarsAreBare (Exists q) = QueryIsBare q
  StarsAreBare (InSubquery t q) = StarsAreBare t × QueryIsBare q
  StarsAreBare (NotInSubquery t q) = StarsAreBare t × QueryIsBare q
  StarsAreBare (Scalar q) = QueryIsBare q
  StarsAreBare (Sum signs ts) = AllAreBare ts

  -- a subquery, and those in it
  pub QueryIsBare : Query → Type 0
  QueryIsBare (Select from key selects items condition) = IsBare selects items × (AllAreBare items × AllAreBare condition)

  -- each of them
  pub AllAreBare : Terms → Type 0
  AllAreBare End = Unit {0}
  AllAreBare (More t ts) = StarsAreBare t × AllAreBare ts
