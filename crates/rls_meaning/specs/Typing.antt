-- The types of expressions: where each may stand. NULL may stand anywhere; AND, OR, NOT and conditions take booleans, sums
-- take whole numbers; what is compared has one type; IN and a scalar subquery select one item.
use Rattle.std.specs.Prelude.{Bool, true, false, ◌&&◌, ◌||◌}
use Rattle.rls_value.specs.declared.value.Value.TheVariants as v
use Rattle.rls_expr.specs.declared.expr.Category.{Category}
use Rattle.rls_expr.specs.declared.expr.Category.TheVariants as t
use Rattle.rls_expr.specs.declared.expr.Selects.TheVariants as s
use Rattle.rls_expr.specs.Terms.{Term, Terms, Query, Literal, Column, Var, CurrentUser, Compare, And, Or, Not, IsNull, IsNotNull, InList, NotInList, Exists, InSubquery, NotInSubquery, Scalar, Sum, End, More, Select}
use Rattle.rls_expr.specs.Typing.{same_type}

-- it holds of one of the types
abbrev pub some_type : (Category → Bool) → Bool
some_type test = test t.Number || (test t.Text || test t.Boolean)

abbrev mutual
  -- the resolved expression may stand where a value of the type is wanted
  pub fits : Term → Category → Bool
  fits (Literal v.Null) type = true
  fits (Literal (v.Int n)) type = same_type t.Number type
  fits (Literal (v.Text x)) type = same_type t.Text type
  fits (Literal (v.Bool b)) type = same_type t.Boolean type
  fits (Column name) type = false
  fits (Var at) type = same_type at.kind type
  fits CurrentUser type = same_type t.Text type
  fits (Compare how a b) type = same_type t.Boolean type && some_type (λ k. fits a k && fits b k)
  fits (And ts) type = same_type t.Boolean type && each_fits (same_type t.Boolean) ts
  fits (Or ts) type = same_type t.Boolean type && each_fits (same_type t.Boolean) ts
  fits (Not u) type = same_type t.Boolean type && fits u t.Boolean
  fits (IsNull u) type = same_type t.Boolean type && some_type (fits u)
  fits (IsNotNull u) type = same_type t.Boolean type && some_type (fits u)
  fits (InList u us) type = same_type t.Boolean type && each_fits (fits u) us
  fits (NotInList u us) type = same_type t.Boolean type && each_fits (fits u) us
  fits (Exists (Select from key selects items condition)) type = same_type t.Boolean type && (each_fits (λ _. true) items && each_fits (same_type t.Boolean) condition)
  fits (InSubquery u q) type = same_type t.Boolean type && some_type (λ k. fits u k && item_fits q k)
  fits (NotInSubquery u q) type = same_type t.Boolean type && some_type (λ k. fits u k && item_fits q k)
  fits (Scalar q) type = item_fits q type
  fits (Sum signs us) type = same_type t.Number type && each_fits (same_type t.Number) us

  -- what the subquery selects may stand there: `count(*)`, a whole number, or its only item; its condition is a boolean
  pub item_fits : Query → Category → Bool
  item_fits (Select from key s.Count items condition) type = same_type t.Number type && each_fits (same_type t.Boolean) condition
  item_fits (Select from key _ (More u End) condition) type = fits u type && each_fits (same_type t.Boolean) condition
  item_fits _ type = false

  -- each of them fits a type that passes the test; some type passes it
  pub each_fits : (Category → Bool) → Terms → Bool
  each_fits test End = some_type test
  each_fits test (More u us) = some_type (λ k. test k && fits u k) && each_fits test us
