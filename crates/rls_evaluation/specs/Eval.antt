-- The value of a resolved term (PostgreSQL manual, 9.1, 9.2, 9.23, 9.24 and 4.2.11): a comparison with null is null, AND, OR and
-- NOT are Kleene's, IN is the OR of equalities, a sum is a whole number without a range, and a subquery has one row more
-- in scope. Each part is evaluated.
use Rattle.std.specs.Prelude.{ℕ, List, [], ◌∷◌, Bool, true, false, ◌||◌, not, Option, Some, None, Ok}
use Rattle.rls_value.specs.{declared.value.Value.Value, declared.truth.Truth.Truth}
use Rattle.rls_value.specs.declared.value.Value.TheVariants.{Null, Text, Bool as Flag}
use Rattle.rls_value.specs.declared.truth.Truth.TheVariants.{True, False}
use Rattle.rls_value.specs.Truths.{conjunction_of, disjunction_of, negation_of, is_true}
use Rattle.rls_value.specs.Values.{equal_values, value_of_truth, truth_in, is_null, value_at}
use Rattle.rls_source.specs.rls_catalog.specs.rls_expr.specs.declared.expr.Sign.{Sign}
use Rattle.rls_source.specs.rls_catalog.specs.rls_expr.specs.Terms.{Term, Terms, Query, Literal, Column, Var, CurrentUser, Compare, And, Or, Not, IsNull, IsNotNull, InList, NotInList, Exists, InSubquery, NotInSubquery, Scalar, Sum, End, More, Select}
use Rattle.rls_source.specs.Askings.{Asking, known, asked_if, followed_by}
use Rattle.rls_evaluation.specs.Environments.{Environment, inside, row_at, compared, joined, number_or_null}
use Rattle.rls_evaluation.specs.{Gathering.gathered, Keys.key_of}

-- what the table of that name shows: its rows with the key or, without one, all of them
abbrev pub Shows : Type 0
Shows = List ℕ → Option (List Value) → Asking (List (List Value))

-- AND with a further value
abbrev pub and_value : Value → Truth → Truth
and_value v truth = conjunction_of (truth_in v) truth

-- OR with a further value
abbrev pub or_value : Value → Truth → Truth
or_value v truth = disjunction_of (truth_in v) truth

-- OR with an equality
abbrev pub or_equal : Value → Value → Truth → Truth
or_equal x v truth = disjunction_of (equal_values x v) truth

-- whether the item is equal to it; a row that has none counts for nothing
abbrev pub item_equals : Value → Option Value → Truth
item_equals x None = False
item_equals x (Some v) = equal_values x v

-- OR with what one row says
abbrev pub or_item : Value → Option Value → Truth → Truth
or_item x item truth = disjunction_of (item_equals x item) truth

-- the item or, where there is none, what comes behind
abbrev pub item_or : Option Value → Value → Value
item_or (Some v) further = v
item_or None further = further

-- an item, if the row meets WHERE
abbrev pub item_if : Asking Bool → Asking Value → Asking (Option Value)
item_if meets item = followed_by meets (λ is. asked_if is (followed_by item (λ v. known (Ok (Some v)))) (known (Ok None)))

-- the rows that a subquery ranges over
abbrev pub ranged_over : Query → Shows → Environment → Asking (List (List Value))
ranged_over (Select from key selects items condition) sees env = sees from.table (key_of key condition env)

-- a truth value as a value
abbrev pub as_value : Asking Truth → Asking Value
as_value asking = followed_by asking (λ truth. known (Ok (value_of_truth truth)))

-- its negation as a value
abbrev pub negated : Asking Truth → Asking Value
negated asking = followed_by asking (λ truth. known (Ok (value_of_truth (negation_of truth))))

-- the truth value, or its negation
abbrev pub turned : Bool → Truth → Truth
turned true truth = negation_of truth
turned false truth = truth

-- the same as a value
abbrev pub turned_value : Bool → Asking Truth → Asking Value
turned_value is_negated asking = followed_by asking (λ truth. known (Ok (value_of_truth (turned is_negated truth))))

abbrev mutual
  -- no resolved term has a column by its name
  pub value_of : Term → Shows → Environment → Asking Value
  value_of (Literal v) sees env = known (Ok v)
  value_of (Column name) sees env = known (Ok Null)
  value_of (Var at) sees env = known (Ok (value_at (row_at env.rows at.level) at.column))
  value_of CurrentUser sees env = known (Ok (Text env.user))
  value_of (Compare how a b) sees env = followed_by (value_of a sees env) (λ x. followed_by (value_of b sees env) (λ y. known (Ok (value_of_truth (compared how x y)))))
  value_of (And ts) sees env = as_value (together and_value True ts sees env)
  value_of (Or ts) sees env = as_value (together or_value False ts sees env)
  value_of (Not t) sees env = followed_by (value_of t sees env) (λ x. known (Ok (value_of_truth (negation_of (truth_in x)))))
  value_of (IsNull t) sees env = followed_by (value_of t sees env) (λ x. known (Ok (Flag (is_null x))))
  value_of (IsNotNull t) sees env = followed_by (value_of t sees env) (λ x. known (Ok (Flag (not (is_null x)))))
  value_of (InList t ts) sees env = followed_by (value_of t sees env) (λ x. as_value (together (or_equal x) False ts sees env))
  value_of (NotInList t ts) sees env = followed_by (value_of t sees env) (λ x. negated (together (or_equal x) False ts sees env))
  value_of (Exists q) sees env = followed_by (has_row q sees env) (λ is. known (Ok (Flag is)))
  value_of (InSubquery t q) sees env = followed_by (value_of t sees env) (λ x. as_value (among_items x q sees env))
  value_of (NotInSubquery t q) sees env = followed_by (value_of t sees env) (λ x. negated (among_items x q sees env))
  value_of (Scalar q) sees env = first_item q sees env
  value_of (Sum signs ts) sees env = sum_of signs ts sees env

  -- what the values of the parts come to together
  pub together : (Value → Truth → Truth) → Truth → Terms → Shows → Environment → Asking Truth
  together put none End sees env = known (Ok none)
  together put none (More t ts) sees env = followed_by (value_of t sees env) (λ v. followed_by (together put none ts sees env) (λ rest. known (Ok (put v rest))))

  -- the first part, and each further one by the sign before it; a sum of no parts is null
  pub sum_of : List Sign → Terms → Shows → Environment → Asking Value
  sum_of signs End sees env = known (Ok Null)
  sum_of signs (More t ts) sees env = followed_by (value_of t sees env) (λ v. sum_from (number_or_null v) signs ts sees env)

  -- the sum so far, and each part that has a sign
  pub sum_from : Value → List Sign → Terms → Shows → Environment → Asking Value
  sum_from so_far (sign ∷ signs) (More t ts) sees env = followed_by (value_of t sees env) (λ v. sum_from (joined sign so_far v) signs ts sees env)
  sum_from so_far (sign ∷ signs) End sees env = known (Ok so_far)
  sum_from so_far [] ts sees env = known (Ok so_far)

  -- some row that the table shows meets WHERE
  pub has_row : Query → Shows → Environment → Asking Bool
  has_row (Select from key selects items condition) sees env = followed_by (sees from.table (key_of key condition env)) (λ rows.
      gathered (λ row is rest. is || rest) false (λ row. meets condition sees (inside row env)) rows)

  -- WHERE is true, or left out
  pub meets : Terms → Shows → Environment → Asking Bool
  meets End sees env = known (Ok true)
  meets (More t ts) sees env = followed_by (value_of t sees env) (λ v. known (Ok (is_true (truth_in v))))

  -- the value is equal to the item of a row that meets WHERE
  pub among_items : Value → Query → Shows → Environment → Asking Truth
  among_items x (Select from key selects items condition) sees env = followed_by (sees from.table (key_of key condition env)) (λ rows.
      gathered (λ row item rest. or_item x item rest) False (λ row. item_if (meets condition sees (inside row env)) (item_of items sees (inside row env))) rows)

  -- the item of the first row that meets WHERE; null where there is none
  pub first_item : Query → Shows → Environment → Asking Value
  first_item (Select from key selects items condition) sees env = followed_by (sees from.table (key_of key condition env)) (λ rows.
      gathered (λ row item rest. item_or item rest) Null (λ row. item_if (meets condition sees (inside row env)) (item_of items sees (inside row env))) rows)

  -- the one item that is selected
  pub item_of : Terms → Shows → Environment → Asking Value
  item_of End sees env = known (Ok Null)
  item_of (More t ts) sees env = value_of t sees env
