-- What isn't supported in a resolved expression: sums outside the right side of SET, `count(*)` in a subquery, and a scalar
-- subquery that may give more than one row, since its condition doesn't set each column of a primary key equal to what is
-- known before a row is looked at.
use Rattle.std.specs.Prelude.{ℕ, List, [], Bool, true, false, not, ◌||◌, is_some}
use Rattle.rls_evaluation.specs.rls_catalog.specs.rls_expr.specs.declared.expr.Selects.{Selects}
use Rattle.rls_evaluation.specs.rls_catalog.specs.rls_expr.specs.declared.expr.Selects.TheVariants as s
use Rattle.rls_evaluation.specs.rls_catalog.specs.rls_expr.specs.Terms.{Term, Terms, Query, Literal, Column, Var, CurrentUser, Compare, And, Or, Not, IsNull, IsNotNull, InList, NotInList, Exists, InSubquery, NotInSubquery, Scalar, Sum, End, More, Select}
use Rattle.rls_evaluation.specs.{Environments.Environment, Environments.alone, Keys.key_of}

-- no row is in scope, and no role: which columns are pinned hangs on neither
abbrev pub nowhere : Environment
nowhere = alone []

-- WHERE pins each column of the key, by the places of the table's primary key
abbrev pub pins_key : List ℕ → Terms → Bool
pins_key columns condition = is_some (key_of columns condition nowhere)

-- its condition pins the key of its table, so that it gives one row at most
abbrev pub is_pinned : Query → Bool
is_pinned (Select from key selects items condition) = pins_key key condition

-- it selects `count(*)`
abbrev pub is_count : Selects → Bool
is_count s.All = false
is_count s.Count = true
is_count s.Items = false

abbrev mutual
  -- what isn't supported stands in it, also inside a subquery; `sums` says whether sums may
  pub is_unsupported : Bool → Term → Bool
  is_unsupported sums (Literal v) = false
  is_unsupported sums (Column name) = false
  is_unsupported sums (Var at) = false
  is_unsupported sums CurrentUser = false
  is_unsupported sums (Compare how a b) = is_unsupported sums a || is_unsupported sums b
  is_unsupported sums (And ts) = are_unsupported sums ts
  is_unsupported sums (Or ts) = are_unsupported sums ts
  is_unsupported sums (Not t) = is_unsupported sums t
  is_unsupported sums (IsNull t) = is_unsupported sums t
  is_unsupported sums (IsNotNull t) = is_unsupported sums t
  is_unsupported sums (InList t ts) = is_unsupported sums t || are_unsupported sums ts
  is_unsupported sums (NotInList t ts) = is_unsupported sums t || are_unsupported sums ts
  is_unsupported sums (Exists q) = query_unsupported sums q
  is_unsupported sums (InSubquery t q) = is_unsupported sums t || query_unsupported sums q
  is_unsupported sums (NotInSubquery t q) = is_unsupported sums t || query_unsupported sums q
  is_unsupported sums (Scalar q) = not (is_pinned q) || query_unsupported sums q
  is_unsupported sums (Sum signs ts) = not sums || are_unsupported sums ts

  -- in one of them
  pub are_unsupported : Bool → Terms → Bool
  are_unsupported sums End = false
  are_unsupported sums (More t ts) = is_unsupported sums t || are_unsupported sums ts

  -- it is a `count(*)`, or in the items or in WHERE
  pub query_unsupported : Bool → Query → Bool
  query_unsupported sums (Select from key selects items condition) = is_count selects || (are_unsupported sums items || are_unsupported sums condition)
