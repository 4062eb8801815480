-- The types of expressions: both sides of a comparison are whole numbers, or both text, or both boolean;
-- AND, OR, NOT and conditions take booleans; sums take whole numbers; IN and a scalar subquery select one item; null goes
-- with each.
use Rattle.std.specs.Prelude.{Bool, true, false, ◌&&◌}
use Rattle.rls_value.specs.declared.value.Value.{Value}
use Rattle.rls_value.specs.declared.value.Value.TheVariants as v
use Rattle.rls_value.specs.declared.value.ColType.{ColType}
use Rattle.rls_expr.specs.declared.expr.Category.{Category}
use Rattle.rls_expr.specs.declared.expr.Category.TheVariants as t
use Rattle.rls_expr.specs.declared.expr.Selects.{Selects}
use Rattle.rls_expr.specs.declared.expr.Selects.TheVariants as s
use Rattle.rls_expr.specs.declared.typing.Typing.{Typing}
use Rattle.rls_expr.specs.declared.typing.Typing.TheVariants.{Fault, Null, Of}
use Rattle.rls_expr.specs.Tables.{category_of}
use Rattle.rls_expr.specs.Terms.{Term, Terms, Query, Literal, Column, Var, CurrentUser, Compare, And, Or, Not, IsNull, IsNotNull, InList, NotInList, Exists, InSubquery, NotInSubquery, Scalar, Sum, End, More, Select}

-- whether two categories are one
abbrev pub same_type : Category → Category → Bool
same_type t.Number t.Number = true
same_type t.Text t.Text = true
same_type t.Boolean t.Boolean = true
same_type _ _ = false

-- the type of a literal; null has none
abbrev pub literal_type : Value → Typing
literal_type v.Null = Null
literal_type (v.Int n) = Of t.Number
literal_type (v.Text x) = Of t.Text
literal_type (v.Bool b) = Of t.Boolean

-- a boolean, if types fit
abbrev pub boolean_if : Bool → Typing
boolean_if true = Of t.Boolean
boolean_if false = Fault

-- what a comparison of the two is
abbrev pub goes_with : Typing → Typing → Typing
goes_with Fault right = Fault
goes_with left Fault = Fault
goes_with Null right = Of t.Boolean
goes_with left Null = Of t.Boolean
goes_with (Of left) (Of right) = boolean_if (same_type left right)

-- IS NULL takes each type
abbrev pub tested : Typing → Typing
tested Fault = Fault
tested Null = Of t.Boolean
tested (Of type) = Of t.Boolean

-- whether it may stand where a boolean is wanted
abbrev pub takes_boolean : Typing → Bool
takes_boolean Fault = false
takes_boolean Null = true
takes_boolean (Of type) = same_type type t.Boolean

-- whether it may stand where a whole number is wanted
abbrev pub takes_number : Typing → Bool
takes_number Fault = false
takes_number Null = true
takes_number (Of type) = same_type type t.Number

-- a whole number, if types fit
abbrev pub number_if : Bool → Typing
number_if true = Of t.Number
number_if false = Fault

-- of two that have to fit, the first fault stands
abbrev pub with_fitting : Typing → Typing → Typing
with_fitting Fault others = Fault
with_fitting one others = others

-- it has a type, or is null
abbrev pub is_typed : Typing → Bool
is_typed Fault = false
is_typed Null = true
is_typed (Of type) = true

-- the type of what a subquery selects: of `count(*)` a whole number, else that of its only item
abbrev pub selected_type : Selects → Typing → Bool → Typing
selected_type selects only false = Fault
selected_type s.Count only true = Of t.Number
selected_type s.All only true = only
selected_type s.Items only true = only

abbrev mutual
  -- the type of a resolved term
  pub type_of : Term → Typing
  type_of (Literal v) = literal_type v
  type_of (Column name) = Fault
  type_of (Var at) = Of at.kind
  type_of CurrentUser = Of t.Text
  type_of (Compare how a b) = goes_with (type_of a) (type_of b)
  type_of (And ts) = boolean_if (all_booleans ts)
  type_of (Or ts) = boolean_if (all_booleans ts)
  type_of (Not u) = boolean_if (takes_boolean (type_of u))
  type_of (IsNull u) = tested (type_of u)
  type_of (IsNotNull u) = tested (type_of u)
  type_of (InList u us) = among_type (type_of u) us
  type_of (NotInList u us) = among_type (type_of u) us
  type_of (Exists q) = boolean_if (query_fits q)
  type_of (InSubquery u q) = goes_with (type_of u) (item_type q)
  type_of (NotInSubquery u q) = goes_with (type_of u) (item_type q)
  type_of (Scalar q) = item_type q
  type_of (Sum signs us) = number_if (all_numbers us)

  -- each item has a type, and WHERE is a boolean
  pub query_fits : Query → Bool
  query_fits (Select from key selects items condition) = all_typed items && all_booleans condition

  -- the type of the one item that is selected
  pub item_type : Query → Typing
  item_type (Select from key selects items condition) = selected_type selects (only_type items) (all_booleans condition)

  -- that of the only one
  pub only_type : Terms → Typing
  only_type End = Fault
  only_type (More u End) = type_of u
  only_type (More u (More v us)) = Fault

  -- each of them has a type
  pub all_typed : Terms → Bool
  all_typed End = true
  all_typed (More u us) = is_typed (type_of u) && all_typed us

  -- each of them may stand where a boolean is wanted
  pub all_booleans : Terms → Bool
  all_booleans End = true
  all_booleans (More u us) = takes_boolean (type_of u) && all_booleans us

  -- each of them may stand where a whole number is wanted
  pub all_numbers : Terms → Bool
  all_numbers End = true
  all_numbers (More u us) = takes_number (type_of u) && all_numbers us

  -- IN compares with each of the list
  pub among_type : Typing → Terms → Typing
  among_type left End = tested left
  among_type left (More u us) = with_fitting (goes_with left (type_of u)) (among_type left us)

-- whether a column takes values of what was typed, their range aside
abbrev pub goes_into : Typing → ColType → Bool
goes_into Fault column = false
goes_into Null column = true
goes_into (Of category) column = same_type category (category_of column)
