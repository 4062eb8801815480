-- What an expression fits is what its type goes into.
use Rattle.std.specs.Prelude.{◌≡◌, refl, Bool, true, false, ◌&&◌, ◌||◌}
use Rattle.std.proofs.Common.{ap, ◌∙◌}
use Rattle.rls_value.specs.declared.value.Value.TheVariants as v
use Rattle.rls_value.specs.declared.value.ColType.{ColType}
use Rattle.rls_expr.specs.declared.expr.Category.{Category}
use Rattle.rls_expr.specs.declared.expr.Category.TheVariants as t
use Rattle.rls_expr.specs.declared.expr.Selects.{Selects}
use Rattle.rls_expr.specs.declared.expr.Selects.TheVariants as s
use Rattle.rls_expr.specs.declared.typing.Typing.{Typing}
use Rattle.rls_expr.specs.declared.typing.Typing.TheVariants.{Fault, Null, Of}
use Rattle.rls_expr.specs.Tables.{category_of}
use Rattle.rls_expr.specs.Terms.{Term, Terms, Query, Literal, Column, Var, CurrentUser, Compare, And, Or, Not, IsNull, IsNotNull, InList, NotInList, Exists, InSubquery, NotInSubquery, Scalar, Sum, End, More, Select}
use Rattle.rls_expr.specs.Typing.{all_booleans, all_numbers, all_typed, among_type, boolean_if, goes_into, goes_with, is_typed, item_type, number_if, only_type, same_type, selected_type, takes_boolean, takes_number, tested, type_of, with_fitting}
use Rattle.rls_meaning.specs.Typing.{each_fits, fits, item_fits, some_type}

-- what is typed so may stand where a value of the type is wanted
abbrev pub goes : Typing → Category → Bool
goes Fault type = false
goes Null type = true
goes (Of one) type = same_type one type

goes_typed : (typing : Typing) → is_typed typing ≡ some_type (goes typing)
goes_typed Fault = refl
goes_typed Null = refl
goes_typed (Of t.Number) = refl
goes_typed (Of t.Text) = refl
goes_typed (Of t.Boolean) = refl

goes_boolean : (typing : Typing) → takes_boolean typing ≡ goes typing t.Boolean
goes_boolean Fault = refl
goes_boolean Null = refl
goes_boolean (Of one) = refl

goes_number : (typing : Typing) → takes_number typing ≡ goes typing t.Number
goes_number Fault = refl
goes_number Null = refl
goes_number (Of one) = refl

goes_column : (typing : Typing) (column : ColType) → goes_into typing column ≡ goes typing (category_of column)
goes_column Fault column = refl
goes_column Null column = refl
goes_column (Of one) column = refl

boolean_goes : (b : Bool) (type : Category) → goes (boolean_if b) type ≡ same_type t.Boolean type && b
boolean_goes true t.Number = refl
boolean_goes true t.Text = refl
boolean_goes true t.Boolean = refl
boolean_goes false t.Number = refl
boolean_goes false t.Text = refl
boolean_goes false t.Boolean = refl

number_goes : (b : Bool) (type : Category) → goes (number_if b) type ≡ same_type t.Number type && b
number_goes true t.Number = refl
number_goes true t.Text = refl
number_goes true t.Boolean = refl
number_goes false t.Number = refl
number_goes false t.Text = refl
number_goes false t.Boolean = refl

-- both may stand where a value of some type is wanted
abbrev both : (Category → Bool) → (Category → Bool) → Bool
both one other = some_type (λ k. one k && other k)

with_goes : (one other : Typing) → goes_with one other ≡ boolean_if (both (goes one) (goes other))
with_goes Fault other = refl
with_goes Null Fault = refl
with_goes Null Null = refl
with_goes Null (Of t.Number) = refl
with_goes Null (Of t.Text) = refl
with_goes Null (Of t.Boolean) = refl
with_goes (Of t.Number) Fault = refl
with_goes (Of t.Text) Fault = refl
with_goes (Of t.Boolean) Fault = refl
with_goes (Of t.Number) Null = refl
with_goes (Of t.Text) Null = refl
with_goes (Of t.Boolean) Null = refl
with_goes (Of t.Number) (Of t.Number) = refl
with_goes (Of t.Number) (Of t.Text) = refl
with_goes (Of t.Number) (Of t.Boolean) = refl
with_goes (Of t.Text) (Of t.Number) = refl
with_goes (Of t.Text) (Of t.Text) = refl
with_goes (Of t.Text) (Of t.Boolean) = refl
with_goes (Of t.Boolean) (Of t.Number) = refl
with_goes (Of t.Boolean) (Of t.Text) = refl
with_goes (Of t.Boolean) (Of t.Boolean) = refl

tested_goes : (typing : Typing) → tested typing ≡ boolean_if (some_type (goes typing))
tested_goes Fault = refl
tested_goes Null = refl
tested_goes (Of t.Number) = refl
tested_goes (Of t.Text) = refl
tested_goes (Of t.Boolean) = refl

fitting : (one others : Bool) → with_fitting (boolean_if one) (boolean_if others) ≡ boolean_if (one && others)
fitting true others = refl
fitting false others = refl

count_goes : (only : Typing) (condition : Bool) (type : Category) → goes (selected_type s.Count only condition) type ≡ same_type t.Number type && condition
count_goes only true t.Number = refl
count_goes only true t.Text = refl
count_goes only true t.Boolean = refl
count_goes only false t.Number = refl
count_goes only false t.Text = refl
count_goes only false t.Boolean = refl

and_true : (b : Bool) → b ≡ b && true
and_true true = refl
and_true false = refl

and_false : (b : Bool) → false ≡ b && false
and_false true = refl
and_false false = refl

or_false : (b : Bool) → b ≡ b || false
or_false true = refl
or_false false = refl

-- it selects no count
abbrev Listed : Selects → Type 0
Listed selects = (only : Typing) → selected_type selects only true ≡ only

listed_goes : (selects : Selects) (only : Typing) (condition : Bool) (type : Category) → Listed selects → goes (selected_type selects only condition) type ≡ goes only type && condition
listed_goes selects only true type listed = (λ i. goes (listed only i) type) ∙ and_true (goes only type)
listed_goes selects only false type listed = and_false (goes only type)

none_goes : (selects : Selects) (condition : Bool) (type : Category) → Listed selects → goes (selected_type selects Fault condition) type ≡ false
none_goes selects condition type listed = listed_goes selects Fault condition type listed

mutual
  fits_types : (u : Term) (type : Category) → goes (type_of u) type ≡ fits u type
  fits_types (Literal v.Null) type = refl
  fits_types (Literal (v.Int n)) type = refl
  fits_types (Literal (v.Text x)) type = refl
  fits_types (Literal (v.Bool b)) type = refl
  fits_types (Column name) type = refl
  fits_types (Var at) type = refl
  fits_types CurrentUser type = refl
  fits_types (Compare how a b) type =
      ap (λ typing. goes typing type) (with_goes (type_of a) (type_of b)) ∙ boolean_goes (both (goes (type_of a)) (goes (type_of b))) type
      ∙ (λ i. same_type t.Boolean type && both (λ k. fits_types a k i) (λ k. fits_types b k i))
  fits_types (And us) type = boolean_goes (all_booleans us) type ∙ (λ i. same_type t.Boolean type && fit_booleans us i)
  fits_types (Or us) type = boolean_goes (all_booleans us) type ∙ (λ i. same_type t.Boolean type && fit_booleans us i)
  fits_types (Not u) type = boolean_goes (takes_boolean (type_of u)) type ∙ (λ i. same_type t.Boolean type && (goes_boolean (type_of u) ∙ fits_types u t.Boolean) i)
  fits_types (IsNull u) type =
      ap (λ typing. goes typing type) (tested_goes (type_of u)) ∙ boolean_goes (some_type (goes (type_of u))) type ∙ (λ i. same_type t.Boolean type && some_type (λ k. fits_types u k i))
  fits_types (IsNotNull u) type =
      ap (λ typing. goes typing type) (tested_goes (type_of u)) ∙ boolean_goes (some_type (goes (type_of u))) type ∙ (λ i. same_type t.Boolean type && some_type (λ k. fits_types u k i))
  fits_types (InList u us) type =
      ap (λ typing. goes typing type) (fit_among (type_of u) us) ∙ boolean_goes (each_fits (goes (type_of u)) us) type
      ∙ (λ i. same_type t.Boolean type && each_fits (λ k. fits_types u k i) us)
  fits_types (NotInList u us) type =
      ap (λ typing. goes typing type) (fit_among (type_of u) us) ∙ boolean_goes (each_fits (goes (type_of u)) us) type
      ∙ (λ i. same_type t.Boolean type && each_fits (λ k. fits_types u k i) us)
  fits_types (Exists (Select from key selects items condition)) type =
      boolean_goes (all_typed items && all_booleans condition) type ∙ (λ i. same_type t.Boolean type && (fit_typed items i && fit_booleans condition i))
  fits_types (InSubquery u q) type =
      ap (λ typing. goes typing type) (with_goes (type_of u) (item_type q)) ∙ boolean_goes (both (goes (type_of u)) (goes (item_type q))) type
      ∙ (λ i. same_type t.Boolean type && both (λ k. fits_types u k i) (λ k. item_fits_type q k i))
  fits_types (NotInSubquery u q) type =
      ap (λ typing. goes typing type) (with_goes (type_of u) (item_type q)) ∙ boolean_goes (both (goes (type_of u)) (goes (item_type q))) type
      ∙ (λ i. same_type t.Boolean type && both (λ k. fits_types u k i) (λ k. item_fits_type q k i))
  fits_types (Scalar q) type = item_fits_type q type
  fits_types (Sum signs us) type = number_goes (all_numbers us) type ∙ (λ i. same_type t.Number type && fit_numbers us i)

  item_fits_type : (q : Query) (type : Category) → goes (item_type q) type ≡ item_fits q type
  item_fits_type (Select from key s.Count items condition) type =
      count_goes (only_type items) (all_booleans condition) type ∙ (λ i. same_type t.Number type && fit_booleans condition i)
  item_fits_type (Select from key s.All End condition) type = none_goes s.All (all_booleans condition) type (λ only. refl)
  item_fits_type (Select from key s.All (More u End) condition) type =
      listed_goes s.All (type_of u) (all_booleans condition) type (λ only. refl) ∙ (λ i. fits_types u type i && fit_booleans condition i)
  item_fits_type (Select from key s.All (More u (More w us)) condition) type = none_goes s.All (all_booleans condition) type (λ only. refl)
  item_fits_type (Select from key s.Items End condition) type = none_goes s.Items (all_booleans condition) type (λ only. refl)
  item_fits_type (Select from key s.Items (More u End) condition) type =
      listed_goes s.Items (type_of u) (all_booleans condition) type (λ only. refl) ∙ (λ i. fits_types u type i && fit_booleans condition i)
  item_fits_type (Select from key s.Items (More u (More w us)) condition) type = none_goes s.Items (all_booleans condition) type (λ only. refl)

  fit_booleans : (us : Terms) → all_booleans us ≡ each_fits (same_type t.Boolean) us
  fit_booleans End = refl
  fit_booleans (More u us) = λ i. (goes_boolean (type_of u) ∙ fits_types u t.Boolean) i && fit_booleans us i

  fit_numbers : (us : Terms) → all_numbers us ≡ each_fits (same_type t.Number) us
  fit_numbers End = refl
  fit_numbers (More u us) = λ i. (goes_number (type_of u) ∙ fits_types u t.Number ∙ or_false (fits u t.Number)) i && fit_numbers us i

  fit_typed : (us : Terms) → all_typed us ≡ each_fits (λ _. true) us
  fit_typed End = refl
  fit_typed (More u us) = λ i. (goes_typed (type_of u) ∙ (λ j. some_type (λ k. fits_types u k j))) i && fit_typed us i

  fit_among : (left : Typing) (us : Terms) → among_type left us ≡ boolean_if (each_fits (goes left) us)
  fit_among left End = tested_goes left
  fit_among left (More u us) =
      (λ i. with_fitting ((with_goes left (type_of u) ∙ (λ j. boolean_if (both (goes left) (λ k. fits_types u k j)))) i) (fit_among left us i))
      ∙ fitting (both (goes left) (fits u)) (each_fits (goes left) us)

-- ---- the laws

pub fits_told : (u : Term) (type : Category) → goes (type_of u) type ≡ fits u type
fits_told u type = fits_types u type

pub boolean_told : (u : Term) → takes_boolean (type_of u) ≡ fits u t.Boolean
boolean_told u = goes_boolean (type_of u) ∙ fits_types u t.Boolean

pub typed_told : (u : Term) → is_typed (type_of u) ≡ some_type (fits u)
typed_told u = goes_typed (type_of u) ∙ (λ i. some_type (λ k. fits_types u k i))

pub column_told : (u : Term) (column : ColType) → goes_into (type_of u) column ≡ fits u (category_of column)
column_told u column = goes_column (type_of u) column ∙ fits_types u (category_of column)
