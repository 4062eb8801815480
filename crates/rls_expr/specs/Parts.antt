-- What stands in an expression: a sum, a subquery, or a column of one of the tables in scope.
use Rattle.std.specs.Prelude.{ℕ, zero, suc, nat_eq, Bool, true, false, ◌&&◌, ◌||◌}
use Rattle.rls_expr.specs.declared.parts.Wanted.{Wanted}
use Rattle.rls_expr.specs.declared.parts.Wanted.TheVariants as w
use Rattle.rls_expr.specs.declared.parts.Nesting.{Nesting, Innermost, Inside'}
use Rattle.rls_expr.specs.Terms.{Term, Terms, Query, Literal, Column, Var, CurrentUser, Compare, And, Or, Not, IsNull, IsNotNull, InList, NotInList, Exists, InSubquery, NotInSubquery, Scalar, Sum, End, More, Select}

abbrev mutual
  -- a sum stands in it, outside its subqueries
  pub has_sum : Term → Bool
  has_sum (Literal v) = false
  has_sum (Column name) = false
  has_sum (Var at) = false
  has_sum CurrentUser = false
  has_sum (Compare how a b) = has_sum a || has_sum b
  has_sum (And ts) = have_sum ts
  has_sum (Or ts) = have_sum ts
  has_sum (Not t) = has_sum t
  has_sum (IsNull t) = has_sum t
  has_sum (IsNotNull t) = has_sum t
  has_sum (InList t ts) = has_sum t || have_sum ts
  has_sum (NotInList t ts) = has_sum t || have_sum ts
  has_sum (Exists q) = false
  has_sum (InSubquery t q) = has_sum t
  has_sum (NotInSubquery t q) = has_sum t
  has_sum (Scalar q) = false
  has_sum (Sum signs ts) = true

  -- in one of them
  pub have_sum : Terms → Bool
  have_sum End = false
  have_sum (More t ts) = has_sum t || have_sum ts

abbrev mutual
  -- a subquery stands in it
  pub has_query : Term → Bool
  has_query (Literal v) = false
  has_query (Column name) = false
  has_query (Var at) = false
  has_query CurrentUser = false
  has_query (Compare how a b) = has_query a || has_query b
  has_query (And ts) = have_query ts
  has_query (Or ts) = have_query ts
  has_query (Not t) = has_query t
  has_query (IsNull t) = has_query t
  has_query (IsNotNull t) = has_query t
  has_query (InList t ts) = has_query t || have_query ts
  has_query (NotInList t ts) = has_query t || have_query ts
  has_query (Exists q) = true
  has_query (InSubquery t q) = true
  has_query (NotInSubquery t q) = true
  has_query (Scalar q) = true
  has_query (Sum signs ts) = have_query ts

  -- in one of them
  pub have_query : Terms → Bool
  have_query End = false
  have_query (More t ts) = has_query t || have_query ts

-- which columns are wanted: any, or the one at a place
abbrev pub is_wanted : Wanted → ℕ → Bool
is_wanted w.Any = λ _. true
is_wanted (w.At place) = nat_eq place

-- how many levels up
abbrev pub nesting_of : Nesting → ℕ
nesting_of Innermost = zero
nesting_of (Inside' p outer) = suc (nesting_of outer)

abbrev mutual
  -- a column that is wanted, of the table so many levels up, stands in it; inside a subquery that is one level further up
  pub mentions : (ℕ → Bool) → ℕ → Term → Bool
  mentions is_wanted table (Literal v) = false
  mentions is_wanted table (Column name) = false
  mentions is_wanted table (Var at) = nat_eq at.level table && is_wanted at.column
  mentions is_wanted table CurrentUser = false
  mentions is_wanted table (Compare how a b) = mentions is_wanted table a || mentions is_wanted table b
  mentions is_wanted table (And ts) = some_mentions is_wanted table ts
  mentions is_wanted table (Or ts) = some_mentions is_wanted table ts
  mentions is_wanted table (Not t) = mentions is_wanted table t
  mentions is_wanted table (IsNull t) = mentions is_wanted table t
  mentions is_wanted table (IsNotNull t) = mentions is_wanted table t
  mentions is_wanted table (InList t ts) = mentions is_wanted table t || some_mentions is_wanted table ts
  mentions is_wanted table (NotInList t ts) = mentions is_wanted table t || some_mentions is_wanted table ts
  mentions is_wanted table (Exists q) = query_mentions is_wanted table q
  mentions is_wanted table (InSubquery t q) = mentions is_wanted table t || query_mentions is_wanted table q
  mentions is_wanted table (NotInSubquery t q) = mentions is_wanted table t || query_mentions is_wanted table q
  mentions is_wanted table (Scalar q) = query_mentions is_wanted table q
  mentions is_wanted table (Sum signs ts) = some_mentions is_wanted table ts

  -- in the items, or in WHERE
  pub query_mentions : (ℕ → Bool) → ℕ → Query → Bool
  query_mentions is_wanted table (Select from key selects items condition) = some_mentions is_wanted (suc table) items || some_mentions is_wanted (suc table) condition

  -- in one of them
  pub some_mentions : (ℕ → Bool) → ℕ → Terms → Bool
  some_mentions is_wanted table End = false
  some_mentions is_wanted table (More t ts) = mentions is_wanted table t || some_mentions is_wanted table ts

-- a column of the target stands in it
abbrev pub reads_target : Term → Bool
reads_target = mentions (λ _. true) 0
