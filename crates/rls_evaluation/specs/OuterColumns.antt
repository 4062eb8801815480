-- The columns further out that a subquery names, and those that quals name: what they come to hangs on the rows in scope
-- through their values alone.
use Rattle.std.specs.Prelude.{ℕ, zero, suc, nat_eq, List, [], ◌∷◌, Bool, true, false, ◌&&◌, ◌||◌, map}
use Rattle.rls_value.specs.declared.value.Value.{Value}
use Rattle.rls_value.specs.Values.{value_at}
use Rattle.rls_source.specs.rls_catalog.specs.rls_expr.specs.declared.policy.Policy.{Policy}
use Rattle.rls_source.specs.rls_catalog.specs.rls_expr.specs.Terms.{Term, Terms, Query, Literal, Column, Var, CurrentUser, Compare, And, Or, Not, IsNull, IsNotNull, InList, NotInList, Exists, InSubquery, NotInSubquery, Scalar, Sum, End, More, Select}
use Rattle.rls_evaluation.specs.declared.outer_columns.OuterColumn.{OuterColumn}
use Rattle.rls_evaluation.specs.declared.relation.SecurityQuals.{SecurityQuals}
use Rattle.rls_evaluation.specs.declared.relation.SecurityQuals.TheVariants.{Exempt, Policies}
use Rattle.rls_evaluation.specs.Environments.{Environment, row_at}

-- the column is one of them
abbrev pub is_among : List OuterColumn → ℕ → ℕ → Bool
is_among [] level column = false
is_among (outer ∷ others) level column = (nat_eq outer.level level && nat_eq outer.column column) || is_among others level column

-- their values
abbrev pub outer_values : List OuterColumn → Environment → List Value
outer_values columns env = map (λ outer. value_at (row_at env.rows outer.level) outer.column) columns

-- the same test seen from inside a subquery, which may name each column of its own table
abbrev pub within : (ℕ → ℕ → Bool) → ℕ → ℕ → Bool
within named zero column = true
within named (suc level) column = named level column

abbrev mutual
  -- each column in it is one that the test says, and no sum stands in it
  pub stays_in : (ℕ → ℕ → Bool) → Term → Bool
  stays_in named (Literal v) = true
  stays_in named (Column name) = true
  stays_in named (Var at) = named at.level at.column
  stays_in named CurrentUser = true
  stays_in named (Compare how a b) = stays_in named a && stays_in named b
  stays_in named (And ts) = stay_in named ts
  stays_in named (Or ts) = stay_in named ts
  stays_in named (Not t) = stays_in named t
  stays_in named (IsNull t) = stays_in named t
  stays_in named (IsNotNull t) = stays_in named t
  stays_in named (InList t ts) = stays_in named t && stay_in named ts
  stays_in named (NotInList t ts) = stays_in named t && stay_in named ts
  stays_in named (Exists q) = query_in named q
  stays_in named (InSubquery t q) = stays_in named t && query_in named q
  stays_in named (NotInSubquery t q) = stays_in named t && query_in named q
  stays_in named (Scalar q) = query_in named q
  stays_in named (Sum signs ts) = false

  -- each of them
  pub stay_in : (ℕ → ℕ → Bool) → Terms → Bool
  stay_in named End = true
  stay_in named (More t ts) = stays_in named t && stay_in named ts

  -- a subquery has one table more
  pub query_in : (ℕ → ℕ → Bool) → Query → Bool
  query_in named (Select from key selects items condition) = stay_in (within named) items && stay_in (within named) condition

-- each condition is so
abbrev pub conditions_in : (ℕ → ℕ → Bool) → List (Policy × Term) → Bool
conditions_in named [] = true
conditions_in named (condition ∷ conditions) = stays_in named condition.1 && conditions_in named conditions

-- each condition of the quals is so
abbrev pub quals_in : (ℕ → ℕ → Bool) → SecurityQuals → Bool
quals_in named Exempt = true
quals_in named (Policies conditions) = conditions_in named conditions
