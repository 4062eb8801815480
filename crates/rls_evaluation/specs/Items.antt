-- The items of a subquery, and equality with one of them.
use Rattle.std.specs.Prelude.{List, [], ◌∷◌, Bool, true, false, Option, Some, None}
use Rattle.rls_value.specs.declared.value.Value.{Value}
use Rattle.rls_value.specs.declared.truth.Truth.{Truth}
use Rattle.rls_value.specs.declared.truth.Truth.TheVariants.{False}
use Rattle.rls_value.specs.Truths.{disjunction_of}
use Rattle.rls_value.specs.Values.{equal_values}
use Rattle.rls_source.specs.rls_catalog.specs.rls_expr.specs.Terms.{Query, Select}
use Rattle.rls_source.specs.Askings.{Asking, followed_by}
use Rattle.rls_evaluation.specs.Environments.{Environment, inside}
use Rattle.rls_evaluation.specs.Gathering.{gathered}
use Rattle.rls_evaluation.specs.Keys.{key_of}
use Rattle.rls_evaluation.specs.Eval.{Shows, meets, item_if, item_of}

-- an item more, if the row has one
abbrev pub with_item : List Value → Option Value → List Value → List Value
with_item row None items = items
with_item row (Some v) items = v ∷ items

-- the items of the rows that meet WHERE
abbrev pub items_seen : Query → Shows → Environment → Asking (List Value)
items_seen (Select from key selects items condition) sees env = followed_by (sees from.table (key_of key condition env)) (λ rows.
    gathered with_item [] (λ row. item_if (meets condition sees (inside row env)) (item_of items sees (inside row env))) rows)

-- a value is equal to one of them: OR of the equalities
abbrev pub any_equal : Value → List Value → Truth
any_equal x [] = False
any_equal x (v ∷ vs) = disjunction_of (equal_values x v) (any_equal x vs)

-- there is one
abbrev pub is_some : List Value → Bool
is_some [] = false
is_some (v ∷ vs) = true
