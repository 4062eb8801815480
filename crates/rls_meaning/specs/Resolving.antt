-- Resolved expressions: each column by its place, each subquery with the key of its table, over the tables of the state.
use Rattle.std.specs.Prelude.{List, ◌∷◌}
use Rattle.std.specs.Option.{option_map, unwrap_or}
use Rattle.rls_expr.specs.{declared.table.TableDef.TableDef, Resolving.column_resolved, Resolving.columns_from, Scopes.InScope, Scopes.var_in}
use Rattle.rls_expr.specs.declared.expr.Selects.{Selects}
use Rattle.rls_expr.specs.declared.expr.Selects.TheVariants as s
use Rattle.rls_expr.specs.Terms.{Term, Terms, Query, Column, Compare, And, Or, Not, IsNull, IsNotNull, InList, NotInList, Exists, InSubquery, NotInSubquery, Scalar, Sum, End, More, Select, qualifier_of, terms_of}
use Rattle.rls_catalog.specs.State.{State, table_of}

-- `*` is each column of the table
abbrev pub items_of : Selects → TableDef → Terms → Terms
items_of s.All table items = terms_of (columns_from 0 table.columns)
items_of _ table items = items

abbrev mutual
  -- each column of the expression that is there is resolved, over these tables, the innermost first
  pub resolved : State → List InScope → Term → Term
  resolved s tables (Column name) = column_resolved name (var_in tables name)
  resolved s tables (Compare how a b) = Compare how (resolved s tables a) (resolved s tables b)
  resolved s tables (And ts) = And (resolved_all s tables ts)
  resolved s tables (Or ts) = Or (resolved_all s tables ts)
  resolved s tables (Not t) = Not (resolved s tables t)
  resolved s tables (IsNull t) = IsNull (resolved s tables t)
  resolved s tables (IsNotNull t) = IsNotNull (resolved s tables t)
  resolved s tables (InList t ts) = InList (resolved s tables t) (resolved_all s tables ts)
  resolved s tables (NotInList t ts) = NotInList (resolved s tables t) (resolved_all s tables ts)
  resolved s tables (Exists q) = Exists (query_resolved s tables q)
  resolved s tables (InSubquery t q) = InSubquery (resolved s tables t) (query_resolved s tables q)
  resolved s tables (NotInSubquery t q) = NotInSubquery (resolved s tables t) (query_resolved s tables q)
  resolved s tables (Scalar q) = Scalar (query_resolved s tables q)
  resolved s tables (Sum signs ts) = Sum signs (resolved_all s tables ts)
  resolved s tables t = t

  -- a subquery has one table more further in, and that table's key; without the table it stays as it is
  pub query_resolved : State → List InScope → Query → Query
  query_resolved s tables (Select from key selects items condition) =
      unwrap_or (option_map (λ table. let inside : List InScope = (qualifier_of from, table) ∷ tables in
      Select from table.key selects (items_of selects table (resolved_all s inside items)) (resolved_all s inside condition))
      (table_of s from.table)) (Select from key selects items condition)

  -- each of them
  pub resolved_all : State → List InScope → Terms → Terms
  resolved_all s tables End = End
  resolved_all s tables (More t ts) = More (resolved s tables t) (resolved_all s tables ts)
