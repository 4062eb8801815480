-- The rows that a subquery ranges over: where its condition, or a part of its outermost AND, sets each column of the
-- table's primary key equal to what is known before a row is looked at, those with that key; else all.
use Rattle.std.specs.Prelude.{ℕ, zero, suc, nat_eq, List, [], ◌∷◌, Bool, false, ◌&&◌, Option, Some, None, if◌then◌else◌}
use Rattle.rls_value.specs.declared.value.Value.{Value}
use Rattle.rls_value.specs.declared.value.Value.TheVariants.{Text}
use Rattle.rls_value.specs.Values.{value_at}
use Rattle.rls_source.specs.rls_catalog.specs.rls_expr.specs.declared.expr.Comparison.TheVariants.{Equal}
use Rattle.rls_source.specs.rls_catalog.specs.rls_expr.specs.Terms.{Term, Terms, Literal, Var, CurrentUser, Compare, And, End, More}
use Rattle.rls_evaluation.specs.Environments.{Environment, row_at}

-- the value of a column further out, seen from inside the subquery; none of its own
abbrev pub outer_value : ℕ → ℕ → Environment → Option Value
outer_value zero column env = None
outer_value (suc level) column env = Some (value_at (row_at env.rows level) column)

-- a literal, the current role, or a column further out
abbrev pub known_value : Term → Environment → Option Value
known_value (Literal v) env = Some v
known_value (Var at) env = outer_value at.level at.column env
known_value CurrentUser env = Some (Text env.user)
known_value _ env = None

-- it is the column at that place of the subquery's own table
abbrev pub is_column : ℕ → Term → Bool
is_column column (Var at) = nat_eq at.level 0 && nat_eq at.column column
is_column column _ = false

-- what the one side is known to be, where the other is the column
abbrev pub pin_by : ℕ → Term → Term → Environment → Option Value
pin_by column here there env = if is_column column here then known_value there env else None

-- the first that is there
abbrev pub or_else : Option Value → Option Value → Option Value
or_else (Some v) other = Some v
or_else None other = other

-- on either side
abbrev pub pin_of_sides : ℕ → Term → Term → Environment → Option Value
pin_of_sides column a b env = or_else (pin_by column a b env) (pin_by column b a env)

-- what the part sets the column equal to
abbrev pub pin_in : ℕ → Term → Environment → Option Value
pin_in column (Compare Equal a b) env = pin_of_sides column a b env
pin_in column _ env = None

-- what the first part that sets it equal to something does
abbrev pub pin_among : ℕ → Terms → Environment → Option Value
pin_among column End env = None
pin_among column (More t ts) env = or_else (pin_in column t env) (pin_among column ts env)

-- what the condition sets the column equal to
abbrev pub pin_of : ℕ → Term → Environment → Option Value
pin_of column (And ts) env = pin_among column ts env
pin_of column t env = pin_in column t env

-- in front of the others, if all are there
abbrev pub with_pin : Option Value → Option (List Value) → Option (List Value)
with_pin (Some v) (Some vs) = Some (v ∷ vs)
with_pin _ _ = None

-- what the condition sets the columns equal to, if it sets each
abbrev pub pinned : List ℕ → Term → Environment → Option (List Value)
pinned [] condition env = Some []
pinned (column ∷ columns) condition env = with_pin (pin_of column condition env) (pinned columns condition env)

-- the key of the rows that a subquery ranges over, by the places of the table's primary key and WHERE; none for all rows
abbrev pub key_of : List ℕ → Terms → Environment → Option (List Value)
key_of columns End env = None
key_of [] (More t ts) env = None
key_of (column ∷ columns) (More t ts) env = pinned (column ∷ columns) t env
