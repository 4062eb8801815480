-- Resolved columns, where they are there. Whether they are is asked before, but for policies, which were checked
-- against the tables that there were.
use Rattle.std.specs.Prelude.{ℕ, suc, List, [], ◌∷◌, Option, Some, None, Result, Ok, Err}
use Rattle.rls_expr.specs.declared.column_name.ColumnName.{ColumnName}
use Rattle.rls_expr.specs.declared.expr.Var.{Var as VarOf}
use Rattle.rls_expr.specs.declared.expr.Selects.{Selects}
use Rattle.rls_expr.specs.declared.expr.Selects.TheVariants as s
use Rattle.rls_expr.specs.declared.resolving.Scope.{Scope}
use Rattle.rls_expr.specs.declared.table.Column.{Column as ColumnOf}
use Rattle.rls_expr.specs.declared.table.TableDef.{TableDef}
use Rattle.rls_expr.specs.Scopes.{InScope, Unknown, known_table, var_in}
use Rattle.rls_expr.specs.Tables.{category_of}
use Rattle.rls_expr.specs.Terms.{Term, Terms, Query, Literal, Column, Var, CurrentUser, Compare, And, Or, Not, IsNull, IsNotNull, InList, NotInList, Exists, InSubquery, NotInSubquery, Scalar, Sum, End, More, Select, qualifier_of, terms_of}

-- what names may mean: the tables of the FROM clauses round, the innermost first, and the tables that subqueries name
pub record Names : Type 0 where
  pub tables : List InScope
  pub known : List InScope

-- what a scope is
abbrev pub names_in : Scope → Names
names_in scope = record { tables = scope.tables.now; known = scope.known.now }

-- with one table further in
abbrev pub inside : InScope → Names → Names
inside from names = record { tables = from ∷ names.tables; known = names.known }

-- the resolved column, or the name where that means none
abbrev pub column_resolved : ColumnName → Result VarOf Unknown → Term
column_resolved name (Ok var) = Var var
column_resolved name (Err unknown) = Column name

-- each column of the innermost table, the first one being at this place
abbrev pub columns_from : ℕ → List ColumnOf → List Term
columns_from place [] = []
columns_from place (column ∷ columns) = Var (record { level = 0; column = place; kind = category_of column.kind }) ∷ columns_from (suc place) columns

-- `*` is each column
abbrev pub items_of : Selects → TableDef → Terms → Terms
items_of s.All table items = terms_of (columns_from 0 table.columns)
items_of s.Count table items = items
items_of s.Items table items = items

-- the definition of the table that the query is over, if it is known
abbrev pub definition_of : Query → Names → Option TableDef
definition_of (Select from key selects items condition) names = known_table names.known from.table

-- the query with what was resolved
abbrev pub query_with : Query → List ℕ → Terms → Terms → Query
query_with (Select from old selects others other) key items condition = Select from key selects items condition

abbrev mutual
  -- each column resolved that is there
  pub resolved : Term → Names → Term
  resolved (Literal v) names = Literal v
  resolved (Column name) names = column_resolved name (var_in names.tables name)
  resolved (Var at) names = Var at
  resolved CurrentUser names = CurrentUser
  resolved (Compare how a b) names = Compare how (resolved a names) (resolved b names)
  resolved (And ts) names = And (resolved_all ts names)
  resolved (Or ts) names = Or (resolved_all ts names)
  resolved (Not t) names = Not (resolved t names)
  resolved (IsNull t) names = IsNull (resolved t names)
  resolved (IsNotNull t) names = IsNotNull (resolved t names)
  resolved (InList t ts) names = InList (resolved t names) (resolved_all ts names)
  resolved (NotInList t ts) names = NotInList (resolved t names) (resolved_all ts names)
  resolved (Exists q) names = Exists (query_over q names (definition_of q names))
  resolved (InSubquery t q) names = InSubquery (resolved t names) (query_over q names (definition_of q names))
  resolved (NotInSubquery t q) names = NotInSubquery (resolved t names) (query_over q names (definition_of q names))
  resolved (Scalar q) names = Scalar (query_over q names (definition_of q names))
  resolved (Sum signs ts) names = Sum signs (resolved_all ts names)

  -- a subquery over its table's definition, with the table's key; without one it stays as it is
  pub query_over : Query → Names → Option TableDef → Query
  query_over (Select from key selects items condition) names None = Select from key selects items condition
  query_over (Select from key selects items condition) names (Some table) =
      Select from table.key selects (items_of selects table (resolved_all items (inside (qualifier_of from, table) names))) (resolved_all condition (inside (qualifier_of from, table) names))

  -- the same of a list of terms
  pub resolved_all : Terms → Names → Terms
  resolved_all End names = End
  resolved_all (More t ts) names = More (resolved t names) (resolved_all ts names)

-- a subquery over its table
abbrev pub query_resolved : Query → Names → Query
query_resolved query names = query_over query names (definition_of query names)

-- terms in front of those that follow
abbrev pub in_front : List Term → Terms → Terms
in_front [] us = us
in_front (t ∷ ts) us = More t (in_front ts us)
