-- The names in an expression, in text order.
use Rattle.std.specs.Prelude.{ℕ, List, [], ◌∷◌, ◌++◌, None}
use Rattle.rls_expr.specs.declared.column_name.ColumnName.{ColumnName}
use Rattle.rls_expr.specs.declared.expr.FromItem.{FromItem}
use Rattle.rls_expr.specs.declared.names.NameStep.{NameStep}
use Rattle.rls_expr.specs.declared.names.NameStep.TheVariants as code
use Rattle.rls_expr.specs.Terms.{Term, Terms, Query, Literal, Column, Var, CurrentUser, Compare, And, Or, Not, IsNull, IsNotNull, InList, NotInList, Exists, InSubquery, NotInSubquery, Scalar, Sum, End, More, Select}

-- a column is named; a subquery begins, which names its table; it ends
pub data Step : Type 0 where
  Look : ColumnName → Step
  Enter : FromItem → Step
  Leave : Step

abbrev mutual
  -- the names in a term
  pub names_of : Term → List Step
  names_of (Literal v) = []
  names_of (Column name) = Look name ∷ []
  names_of (Var at) = []
  names_of CurrentUser = []
  names_of (Compare how a b) = names_of a ++ names_of b
  names_of (And ts) = names_all ts
  names_of (Or ts) = names_all ts
  names_of (Not t) = names_of t
  names_of (IsNull t) = names_of t
  names_of (IsNotNull t) = names_of t
  names_of (InList t ts) = names_of t ++ names_all ts
  names_of (NotInList t ts) = names_of t ++ names_all ts
  names_of (Exists q) = query_names q
  names_of (InSubquery t q) = names_of t ++ query_names q
  names_of (NotInSubquery t q) = names_of t ++ query_names q
  names_of (Scalar q) = query_names q
  names_of (Sum signs ts) = names_all ts

  -- a subquery's table is named before its items, although it is written behind them
  pub query_names : Query → List Step
  query_names (Select from key selects items condition) = Enter from ∷ (names_all items ++ (names_all condition ++ Leave ∷ []))

  -- of each of them
  pub names_all : Terms → List Step
  names_all End = []
  names_all (More t ts) = names_of t ++ names_all ts

-- ---- the tables in an expression

-- the table of a step at which a subquery begins, in front of the others
abbrev pub with_entered : Step → List (List ℕ) → List (List ℕ)
with_entered (Look name) tables = tables
with_entered (Enter from) tables = from.table ∷ tables
with_entered Leave tables = tables

-- the tables of the subqueries that begin at the steps
abbrev pub entered : List Step → List (List ℕ)
entered [] = []
entered (step ∷ steps) = with_entered step (entered steps)

-- the tables of an expression's subqueries, nested ones too, in text order
abbrev pub tables_of : Term → List (List ℕ)
tables_of term = entered (names_of term)

-- ---- steps in code

-- a step as the code has it; a column of the target has no qualifier
abbrev pub step_of : NameStep → Step
step_of (code.Column name) = Look name.now
step_of (code.Target name) = Look (record { qualifier = None; name = name.now })
step_of (code.Begin from) = Enter from.now
step_of code.End = Leave
