-- What a term is evaluated in, and how values are compared and added (PostgreSQL manual, 9.1 and 9.2).
use Rattle.std.specs.Prelude.{ℕ, ℤ, ◌+ℤ◌, ◌-ℤ◌, List, [], ◌∷◌, Result, Ok, Err, slice_get, unwrap_or, if◌then◌else◌}
use Rattle.rls_value.specs.{declared.refusal.Refusal.Refusal, declared.refusal.Refusal.TheVariants.Range, declared.value.Value.Value, declared.truth.Truth.Truth, Truths.negation_of}
use Rattle.rls_value.specs.declared.value.Value.TheVariants.{Null, Int}
use Rattle.rls_value.specs.Values.{equal_values, less_values, fits_type}
use Rattle.rls_source.specs.rls_catalog.specs.rls_expr.specs.{declared.expr.Comparison.Comparison, declared.expr.Sign.Sign, declared.table.Column.Column as ColumnOf}
use Rattle.rls_source.specs.rls_catalog.specs.rls_expr.specs.declared.expr.Comparison.TheVariants as c
use Rattle.rls_source.specs.rls_catalog.specs.rls_expr.specs.declared.expr.Sign.TheVariants.{Plus, Minus}

-- what a term is evaluated in: the current role, and the rows in scope, the innermost first
pub record Environment : Type 0 where
  pub user : List ℕ
  pub rows : List (List Value)

-- with one row in scope
abbrev pub over : List ℕ → List Value → Environment
over user row = record { user = user; rows = row ∷ [] }

-- with no row in scope
abbrev pub alone : List ℕ → Environment
alone user = record { user = user; rows = [] }

-- with one row more in scope, the innermost
abbrev pub inside : List Value → Environment → Environment
inside row env = record { user = env.user; rows = row ∷ env.rows }

-- the row so many levels up
abbrev pub row_at : List (List Value) → ℕ → List Value
row_at rows level = unwrap_or (slice_get rows level) []

-- each operator by `=`, `<` and NOT
abbrev pub compared : Comparison → Value → Value → Truth
compared c.Equal a b = equal_values a b
compared c.NotEqual a b = negation_of (equal_values a b)
compared c.Less a b = less_values a b
compared c.LessOrEqual a b = negation_of (less_values b a)
compared c.Greater a b = less_values b a
compared c.GreaterOrEqual a b = negation_of (less_values a b)

-- a number added, or taken off
abbrev pub by_sign : Sign → ℤ → ℤ → ℤ
by_sign Plus a b = a +ℤ b
by_sign Minus a b = a -ℤ b

-- a sum and its next part: null where one of them is null, or no number
abbrev pub joined : Sign → Value → Value → Value
joined sign (Int a) (Int b) = Int (by_sign sign a b)
joined sign a b = Null

-- a number; null for all else
abbrev pub number_or_null : Value → Value
number_or_null (Int a) = Int a
number_or_null a = Null

-- what a column is set to: a value that it can't hold is out of its range
abbrev pub assigned_value : ColumnOf → Value → Result Value Refusal
assigned_value column value = if fits_type value column.kind then Ok value else Err (Range column.name)
