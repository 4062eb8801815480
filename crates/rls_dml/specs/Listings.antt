-- The rows that are answered: what is selected of those that qualify, in listing order, or their number.
use Rattle.std.specs.Prelude.{ℕ, pos, List, [], ◌∷◌, length, Option, Some, None, map, if◌then◌else◌}
use Rattle.std.specs.Cmp.Lexicographic.{slice_cmp}
use Rattle.std.specs.Ordering.{is_lt}
use Rattle.rls_value.specs.declared.value.Value.{Value}
use Rattle.rls_value.specs.declared.value.Value.TheVariants.{Int}
use Rattle.rls_value.specs.Values.{listed}
use Rattle.rls_expr.specs.Terms.{Term}
use Rattle.rls_guard.specs.declared.reply.Reply.{Reply}
use Rattle.rls_guard.specs.declared.reply.Reply.TheVariants as reply
use Rattle.rls_statement.specs.declared.statement.Selected.{Selected}
use Rattle.rls_statement.specs.declared.statement.Selected.TheVariants.{All, Items, Count}
use Rattle.rls_evaluation.specs.{Environments.over, Tableless.value_in}

-- the items' values for the row
abbrev pub values_of : List Term → List ℕ → List Value → List Value
values_of items user row = map (λ item. value_in item (over user row)) items

-- the row in its place among others that are in listing order
abbrev pub put_listed : List Value → List (List Value) → List (List Value)
put_listed row [] = row ∷ []
put_listed row (other ∷ rows) = if is_lt (slice_cmp listed other row) then other ∷ put_listed row rows else row ∷ other ∷ rows

-- the rows in listing order
abbrev pub listing : List (List Value) → List (List Value)
listing [] = []
listing (row ∷ rows) = put_listed row (listing rows)

-- what is answered from the qualifying rows: they or their items' values, in listing order; or one row, with their number
-- alone (count(*), PostgreSQL manual, 9.21)
abbrev pub answered : Selected → List ℕ → List (List Value) → List (List Value)
answered All user rows = listing rows
answered (Items items) user rows = listing (map (values_of items user) rows)
answered Count user rows = (Int (pos (length rows)) ∷ []) ∷ []

-- what a statement that writes rows answers: what RETURNING selects of them, or how many they are
abbrev pub reply_of : Option Selected → List ℕ → List (List Value) → Reply
reply_of None user rows = reply.Count (length rows)
reply_of (Some selected) user rows = reply.Rows (answered selected user rows)
