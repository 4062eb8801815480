-- Of the rows that a subquery without a whole key ranges over, only those can meet WHERE that have, in columns which it sets
-- equal to what is known before a row is looked at, these values.
use Rattle.std.specs.Prelude.{◌≡◌, ℕ, List, [], ◌∷◌, Bool, true, false, ◌&&◌, Ok, filter, map}
use Rattle.rls_value.specs.declared.value.Value.{Value}
use Rattle.rls_value.specs.{Truths.is_true, Values.equal_values, Values.value_at}
use Rattle.rls_source.specs.rls_catalog.specs.rls_expr.specs.Terms.{Terms}
use Rattle.rls_verdict.specs.rls_catalog.specs.State.{State}
use Rattle.rls_source.specs.Readings.{unread}
use Rattle.rls_evaluation.specs.{Environments.Environment, Environments.inside, Eval.Shows, Eval.meets}

-- the values of the row in the columns
abbrev pub values_in : List ℕ → List Value → List Value
values_in columns row = map (value_at row) columns

-- the row has these values in the columns
abbrev pub has_values : List ℕ → List Value → List Value → Bool
has_values [] [] row = true
has_values (column ∷ columns) (v ∷ values) row = is_true (equal_values v (value_at row column)) && has_values columns values row
has_values _ _ row = false

-- the rows that have them
abbrev pub matching : List ℕ → List Value → List (List Value) → List (List Value)
matching columns values rows = filter (has_values columns values) rows

-- the row doesn't meet WHERE, and nothing is read to see that
abbrev pub IsUnmet : Terms → Environment → List Value → Type 0
IsUnmet condition env row = (sees : Shows) (s : State) → (meets condition sees (inside row env)).in_state s ≡ unread (Ok false)

-- of all rows only such are left out
pub record LeavesOut (IsOut : List Value → Type 0) (all rows : List (List Value)) : Type 0 where
  pub test : List Value → Bool
  pub left : rows ≡ filter test all
  pub others : (row : List Value) → test row ≡ false → IsOut row
