-- The tables of subqueries with their columns are the tables by name.
use Rattle.std.proofs.Common.{◌≡◌, ℕ, suc, List, [], ◌∷◌, ◌++◌, ap, sym, ◌∙◌, refl, map, Result, Ok, Err, Option, Some, None}
use Rattle.std.proofs.lemmas.List.{map-append}
use Rattle.rls_expr.specs.declared.column_name.ColumnName.{ColumnName}
use Rattle.rls_expr.specs.declared.columns.SelectedTable.{SelectedTable}
use Rattle.rls_expr.specs.declared.expr.Selects.{Selects}
use Rattle.rls_expr.specs.declared.expr.Selects.TheVariants as s
use Rattle.rls_expr.specs.declared.expr.Var.{Var as VarOf}
use Rattle.rls_expr.specs.declared.table.Column.{Column as ColumnOf}
use Rattle.rls_expr.specs.declared.table.TableDef.{TableDef}
use Rattle.rls_expr.specs.Naming.{Step, Look, Enter, Leave, names_of, names_all, query_names, entered, tables_of}
use Rattle.rls_expr.specs.Resolving.{Names, inside, column_resolved, columns_from, items_of, definition_of, query_over, resolved, resolved_all}
use Rattle.rls_expr.specs.Scopes.{InScope, Unknown, var_in}
use Rattle.rls_expr.specs.Selecting.{IsBare, StarsAreBare, QueryIsBare, AllAreBare, selected_of, selected_all, query_selected}
use Rattle.rls_expr.specs.Terms.{Term, Terms, Query, Literal, Column, Var, CurrentUser, Compare, And, Or, Not, IsNull, IsNotNull, InList, NotInList, Exists, InSubquery, NotInSubquery, Scalar, Sum, End, More, Select, terms_of, qualifier_of}

-- ---- steps

-- those entered in the one steps, then in the others
entered-append : (xs ys : List Step) → entered (xs ++ ys) ≡ entered xs ++ entered ys
entered-append [] ys = refl
entered-append (Look name ∷ xs) ys = entered-append xs ys
entered-append (Enter from ∷ xs) ys = ap (λ tables. from.table ∷ tables) (entered-append xs ys)
entered-append (Leave ∷ xs) ys = entered-append xs ys

-- a subquery's table, then those of its items and of its WHERE
query_entered : (items condition : List Step) → entered (items ++ (condition ++ Leave ∷ [])) ≡ entered items ++ entered condition
query_entered items condition =
    entered-append items (condition ++ Leave ∷ [])
    ∙ ap (λ tables. entered items ++ tables) (entered-append condition (Leave ∷ []) ∙ append_nothing (entered condition))
  where
    append_nothing : (xs : List (List ℕ)) → xs ++ [] ≡ xs
    append_nothing [] = refl
    append_nothing (x ∷ xs) = ap (λ ys. x ∷ ys) (append_nothing xs)

-- ---- the same term

-- the tables of those selected
abbrev tables : List SelectedTable → List (List ℕ)
tables selected = map (λ one. one.table) selected

-- two parts, one behind the other
both : (xs ys : List SelectedTable) (one two : List Step) → tables xs ≡ entered one → tables ys ≡ entered two → tables (xs ++ ys) ≡ entered (one ++ two)
both xs ys one two first second = map-append (λ one. one.table) xs ys ∙ (λ i. first i ++ second i) ∙ sym (entered-append one two)

mutual
  pub selected_tables : (found : List InScope) (t : Term) → map (λ one. one.table) (selected_of found t) ≡ tables_of t
  selected_tables found (Literal v) = refl
  selected_tables found (Column name) = refl
  selected_tables found (Var at) = refl
  selected_tables found CurrentUser = refl
  selected_tables found (Compare how a b) = both (selected_of found a) (selected_of found b) (names_of a) (names_of b) (selected_tables found a) (selected_tables found b)
  selected_tables found (And ts) = all_tables found ts
  selected_tables found (Or ts) = all_tables found ts
  selected_tables found (Not t) = selected_tables found t
  selected_tables found (IsNull t) = selected_tables found t
  selected_tables found (IsNotNull t) = selected_tables found t
  selected_tables found (InList t ts) = both (selected_of found t) (selected_all found ts) (names_of t) (names_all ts) (selected_tables found t) (all_tables found ts)
  selected_tables found (NotInList t ts) = both (selected_of found t) (selected_all found ts) (names_of t) (names_all ts) (selected_tables found t) (all_tables found ts)
  selected_tables found (Exists q) = query_tables found q
  selected_tables found (InSubquery t q) = both (selected_of found t) (query_selected found q) (names_of t) (query_names q) (selected_tables found t) (query_tables found q)
  selected_tables found (NotInSubquery t q) = both (selected_of found t) (query_selected found q) (names_of t) (query_names q) (selected_tables found t) (query_tables found q)
  selected_tables found (Scalar q) = query_tables found q
  selected_tables found (Sum signs ts) = all_tables found ts

  query_tables : (found : List InScope) (q : Query) → map (λ one. one.table) (query_selected found q) ≡ entered (query_names q)
  query_tables found (Select from key selects items condition) =
      ap (λ others. from.table ∷ others)
      (both (selected_all found items) (selected_all found condition) (names_all items) (names_all condition) (all_tables found items) (all_tables found condition)
      ∙ entered-append (names_all items) (names_all condition)
      ∙ sym (query_entered (names_all items) (names_all condition)))

  all_tables : (found : List InScope) (ts : Terms) → map (λ one. one.table) (selected_all found ts) ≡ entered (names_all ts)
  all_tables found End = refl
  all_tables found (More t ts) = both (selected_of found t) (selected_all found ts) (names_of t) (names_all ts) (selected_tables found t) (all_tables found ts)

-- ---- what is resolved

-- a column, resolved or not, enters nothing
column_enters : (name : ColumnName) (found : Result VarOf Unknown) → entered (names_of (column_resolved name found)) ≡ []
column_enters name (Ok place) = refl
column_enters name (Err unknown) = refl

-- so do all columns of a table
columns_enter : (place : ℕ) (columns : List ColumnOf) → entered (names_all (terms_of (columns_from place columns))) ≡ []
columns_enter place [] = refl
columns_enter place (column ∷ columns) = columns_enter (suc place) columns

-- two parts, one behind the other
same_both : (one two first second : List Step) → entered one ≡ entered first → entered two ≡ entered second → entered (one ++ two) ≡ entered (first ++ second)
same_both one two first second p q = entered-append one two ∙ (λ i. p i ++ q i) ∙ sym (entered-append first second)

-- `*` with no items beside it enters nothing
items_enter : (selects : Selects) (table : TableDef) (items written : Terms) → IsBare selects written → entered (names_all items) ≡ entered (names_all written) → entered (names_all (items_of selects table items)) ≡ entered (names_all written)
items_enter s.All table items written bare same = columns_enter 0 table.columns ∙ (λ i. entered (names_all (sym bare i)))
items_enter s.Count table items written bare same = same
items_enter s.Items table items written bare same = same

mutual
  -- resolving brings in no table, and takes none away
  resolved_enters : (t : Term) (names : Names) → StarsAreBare t → entered (names_of (resolved t names)) ≡ entered (names_of t)
  resolved_enters (Literal v) names bare = refl
  resolved_enters (Column name) names bare = column_enters name (var_in names.tables name)
  resolved_enters (Var at) names bare = refl
  resolved_enters CurrentUser names bare = refl
  resolved_enters (Compare how a b) names bare = same_both (names_of (resolved a names)) (names_of (resolved b names)) (names_of a) (names_of b) (resolved_enters a names bare.0) (resolved_enters b names bare.1)
  resolved_enters (And ts) names bare = all_enter ts names bare
  resolved_enters (Or ts) names bare = all_enter ts names bare
  resolved_enters (Not t) names bare = resolved_enters t names bare
  resolved_enters (IsNull t) names bare = resolved_enters t names bare
  resolved_enters (IsNotNull t) names bare = resolved_enters t names bare
  resolved_enters (InList t ts) names bare = same_both (names_of (resolved t names)) (names_all (resolved_all ts names)) (names_of t) (names_all ts) (resolved_enters t names bare.0) (all_enter ts names bare.1)
  resolved_enters (NotInList t ts) names bare = same_both (names_of (resolved t names)) (names_all (resolved_all ts names)) (names_of t) (names_all ts) (resolved_enters t names bare.0) (all_enter ts names bare.1)
  resolved_enters (Exists q) names bare = query_enters q names (definition_of q names) bare
  resolved_enters (InSubquery t q) names bare =
      same_both (names_of (resolved t names)) (query_names (query_over q names (definition_of q names))) (names_of t) (query_names q) (resolved_enters t names bare.0) (query_enters q names (definition_of q names) bare.1)
  resolved_enters (NotInSubquery t q) names bare =
      same_both (names_of (resolved t names)) (query_names (query_over q names (definition_of q names))) (names_of t) (query_names q) (resolved_enters t names bare.0) (query_enters q names (definition_of q names) bare.1)
  resolved_enters (Scalar q) names bare = query_enters q names (definition_of q names) bare
  resolved_enters (Sum signs ts) names bare = all_enter ts names bare

  query_enters : (q : Query) (names : Names) (found : Option TableDef) → QueryIsBare q → entered (query_names (query_over q names found)) ≡ entered (query_names q)
  query_enters (Select from key selects items condition) names None bare = refl
  query_enters (Select from key selects items condition) names (Some table) bare =
      let inner : Names = inside (qualifier_of from, table) names in
      let given : Terms = items_of selects table (resolved_all items inner) in
      ap (λ others. from.table ∷ others)
      (query_entered (names_all given) (names_all (resolved_all condition inner))
      ∙ (λ i. items_enter selects table (resolved_all items inner) items bare.0 (all_enter items inner bare.1.0) i ++ all_enter condition inner bare.1.1 i)
      ∙ sym (query_entered (names_all items) (names_all condition)))

  all_enter : (ts : Terms) (names : Names) → AllAreBare ts → entered (names_all (resolved_all ts names)) ≡ entered (names_all ts)
  all_enter End names bare = refl
  all_enter (More t ts) names bare = same_both (names_of (resolved t names)) (names_all (resolved_all ts names)) (names_of t) (names_all ts) (resolved_enters t names bare.0) (all_enter ts names bare.1)

pub selected_resolved : (found : List InScope) (t : Term) (names : Names) → StarsAreBare t → map (λ one. one.table) (selected_of found (resolved t names)) ≡ tables_of t
selected_resolved found t names bare = selected_tables found (resolved t names) ∙ resolved_enters t names bare
