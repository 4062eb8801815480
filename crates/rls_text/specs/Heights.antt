-- How deep an expression is: a leaf counts one.
use Rattle.std.specs.Prelude.{ℕ, ◌+◌, max, List, [], ◌∷◌, map, Option, Some, None}
use Rattle.rls_expr.specs.Terms.{Term, Terms, Query, Literal, Column, Var, CurrentUser, Compare, And, Or, Not, IsNull, IsNotNull, InList, NotInList, Exists, InSubquery, NotInSubquery, Scalar, Sum, End, More, Select}
use Rattle.rls_expr.specs.Terms.{terms_of}
use Rattle.rls_statement.specs.declared.changing.Assignment.{Assignment}
use Rattle.rls_statement.specs.declared.statement.Statement.{Statement}
use Rattle.rls_statement.specs.declared.statement.Statement.TheVariants as st

abbrev mutual
  -- the nodes on its longest path, through subqueries too; a scalar subquery is no node but its SELECT
  pub height : Term → ℕ
  height (Literal v) = 1
  height (Column name) = 1
  height (Var at) = 1
  height CurrentUser = 1
  height (Compare how a b) = max (height a) (height b) + 1
  height (And ts) = heights ts + 1
  height (Or ts) = heights ts + 1
  height (Not t) = height t + 1
  height (IsNull t) = height t + 1
  height (IsNotNull t) = height t + 1
  height (InList t ts) = max (height t) (heights ts) + 1
  height (NotInList t ts) = max (height t) (heights ts) + 1
  height (Exists q) = query_height q + 1
  height (InSubquery t q) = max (height t) (query_height q) + 1
  height (NotInSubquery t q) = max (height t) (query_height q) + 1
  height (Scalar q) = query_height q
  height (Sum signs ts) = heights ts + 1

  -- the highest of them
  pub heights : Terms → ℕ
  heights End = 0
  heights (More t ts) = max (height t) (heights ts)

  -- a SELECT is a node above its items and its WHERE
  pub query_height : Query → ℕ
  query_height (Select from key selects items condition) = max (heights items) (heights condition) + 1

-- how high a condition is; 0 where there is none
abbrev pub height_if : Option Term → ℕ
height_if None = 0
height_if (Some term) = height term

-- the highest of all the tuples
abbrev pub highest : List (List Term) → ℕ
highest [] = 0
highest (terms ∷ tuples) = max (heights (terms_of terms)) (highest tuples)

-- what columns are set to
abbrev pub set_values : List Assignment → List Term
set_values = map (λ x. x.value)

-- the highest expression of a statement; 0 where it has none but columns
abbrev pub height_of : Statement → ℕ
height_of (st.Select select) = height_if select.condition
height_of (st.Insert insert) = highest insert.tuples
height_of (st.Update update) = max (heights (terms_of (set_values update.assignments))) (height_if update.condition)
height_of (st.Delete delete) = height_if delete.condition
height_of (st.CreatePolicy create) = max (height_if create.policy.using) (height_if create.policy.check)
height_of (st.AlterPolicy alter) = max (height_if alter.using) (height_if alter.check)
height_of _ = 0
