-- How many subqueries lie one inside another in an expression, and in a statement: the most of its expressions; and
-- whether there is room for so many, as the code tells it.
use Rattle.std.specs.Prelude.{ℕ, zero, suc, ◌+◌, max, Bool, true, false, ◌&&◌, List, [], ◌∷◌}
use Rattle.rls_expr.specs.Terms.{Term, Terms, Query, Literal, Column, Var, CurrentUser, Compare, And, Or, Not, IsNull, IsNotNull, InList, NotInList, Exists, InSubquery, NotInSubquery, Scalar, Sum, End, More, Select}
use Rattle.rls_expr.specs.Terms.{terms_of, maybe_term}
use Rattle.rls_statement.specs.declared.statement.Statement.{Statement}
use Rattle.rls_statement.specs.declared.statement.Statement.TheVariants as st
use Rattle.rls_text.specs.Heights.{set_values}

abbrev mutual
  -- in an expression
  pub query_depth : Term → ℕ
  query_depth (Literal v) = 0
  query_depth (Column name) = 0
  query_depth (Var at) = 0
  query_depth CurrentUser = 0
  query_depth (Compare how a b) = max (query_depth a) (query_depth b)
  query_depth (And ts) = deepest_query ts
  query_depth (Or ts) = deepest_query ts
  query_depth (Not t) = query_depth t
  query_depth (IsNull t) = query_depth t
  query_depth (IsNotNull t) = query_depth t
  query_depth (InList t ts) = max (query_depth t) (deepest_query ts)
  query_depth (NotInList t ts) = max (query_depth t) (deepest_query ts)
  query_depth (Exists q) = depth_of_query q
  query_depth (InSubquery t q) = max (query_depth t) (depth_of_query q)
  query_depth (NotInSubquery t q) = max (query_depth t) (depth_of_query q)
  query_depth (Scalar q) = depth_of_query q
  query_depth (Sum signs ts) = deepest_query ts

  -- the most in one of them
  pub deepest_query : Terms → ℕ
  deepest_query End = 0
  deepest_query (More t ts) = max (query_depth t) (deepest_query ts)

  -- a subquery, and those inside it
  pub depth_of_query : Query → ℕ
  depth_of_query (Select from key selects items condition) = max (deepest_query items) (deepest_query condition) + 1

-- the most in one of the tuples
abbrev pub deepest_in : List (List Term) → ℕ
deepest_in [] = 0
deepest_in (terms ∷ tuples) = max (deepest_query (terms_of terms)) (deepest_in tuples)

-- in a statement; 0 where it has no expression
abbrev pub subqueries_of : Statement → ℕ
subqueries_of (st.Select select) = deepest_query (maybe_term select.condition)
subqueries_of (st.Insert insert) = deepest_in insert.tuples
subqueries_of (st.Update update) = max (deepest_query (terms_of (set_values update.assignments))) (deepest_query (maybe_term update.condition))
subqueries_of (st.Delete delete) = deepest_query (maybe_term delete.condition)
subqueries_of (st.CreatePolicy create) = max (deepest_query (maybe_term create.policy.using)) (deepest_query (maybe_term create.policy.check))
subqueries_of (st.AlterPolicy alter) = max (deepest_query (maybe_term alter.using)) (deepest_query (maybe_term alter.check))
subqueries_of _ = 0

-- ---- whether there is room for so many

abbrev mutual
  -- for those of an expression
  pub has_room : ℕ → Term → Bool
  has_room n (Literal v) = true
  has_room n (Column name) = true
  has_room n (Var at) = true
  has_room n CurrentUser = true
  has_room n (Compare how a b) = has_room n a && has_room n b
  has_room n (And ts) = have_room n ts
  has_room n (Or ts) = have_room n ts
  has_room n (Not t) = has_room n t
  has_room n (IsNull t) = has_room n t
  has_room n (IsNotNull t) = has_room n t
  has_room n (InList t ts) = has_room n t && have_room n ts
  has_room n (NotInList t ts) = has_room n t && have_room n ts
  has_room n (Exists q) = query_room n q
  has_room n (InSubquery t q) = has_room n t && query_room n q
  has_room n (NotInSubquery t q) = has_room n t && query_room n q
  has_room n (Scalar q) = query_room n q
  has_room n (Sum signs ts) = have_room n ts

  -- for those of each
  pub have_room : ℕ → Terms → Bool
  have_room n End = true
  have_room n (More t ts) = has_room n t && have_room n ts

  -- inside a subquery there is room for one fewer
  pub query_room : ℕ → Query → Bool
  query_room zero (Select from key selects items condition) = false
  query_room (suc n) (Select from key selects items condition) = have_room n items && have_room n condition

-- for those of the tuples
abbrev pub tuples_room : ℕ → List (List Term) → Bool
tuples_room n [] = true
tuples_room n (terms ∷ tuples) = have_room n (terms_of terms) && tuples_room n tuples

-- for those of a statement
abbrev pub statement_room : ℕ → Statement → Bool
statement_room n (st.Select select) = have_room n (maybe_term select.condition)
statement_room n (st.Insert insert) = tuples_room n insert.tuples
statement_room n (st.Update update) = have_room n (terms_of (set_values update.assignments)) && have_room n (maybe_term update.condition)
statement_room n (st.Delete delete) = have_room n (maybe_term delete.condition)
statement_room n (st.CreatePolicy create) = have_room n (maybe_term create.policy.using) && have_room n (maybe_term create.policy.check)
statement_room n (st.AlterPolicy alter) = have_room n (maybe_term alter.using) && have_room n (maybe_term alter.check)
statement_room n _ = true
