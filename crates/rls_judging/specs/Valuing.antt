-- The values that a statement gives to rows: of each qualifying row, or of each tuple. What is read for all of them is
-- read once.
use Rattle.std.specs.Prelude.{ℕ, List, [], ◌∷◌, ◌++◌, map}
use Rattle.rls_value.specs.declared.value.Value.{Value}
use Rattle.rls_guard.specs.rls_catalog.specs.rls_expr.specs.Terms.{Term}
use Rattle.rls_guard.specs.rls_catalog.specs.declared.stored.Stored.{Stored}
use Rattle.rls_evaluation.specs.rls_source.specs.Askings.{Asking}
use Rattle.rls_evaluation.specs.rls_source.specs.Once.{each_once}
use Rattle.rls_evaluation.specs.declared.relation.SecuredRelation.{SecuredRelation}
use Rattle.rls_evaluation.specs.Environments.{Environment, over, alone}
use Rattle.rls_evaluation.specs.Gathering.{gathered}
use Rattle.rls_evaluation.specs.Eval.{Shows, value_of}
use Rattle.rls_evaluation.specs.Showing.{shows}

-- a value in front of the others
abbrev pub with_value : Term → Value → List Value → List Value
with_value term value values = value ∷ values

-- the values of the terms
abbrev pub values_on : List Term → Shows → Environment → Asking (List Value)
values_on terms sees env = gathered with_value [] (λ term. value_of term sees env) terms

-- the values for a tuple in front of those for the others
abbrev pub with_values : {A : Type 0} → A → List Value → List (List Value) → List (List Value)
with_values x values further = values ∷ further

-- the values for a row in front of those for the others, in one list
abbrev pub with_row_values : Stored → List Value → List Value → List Value
with_row_values stored values further = values ++ further

-- what the rows are set to: of each row as many values as there are assignments
abbrev pub values_set : List SecuredRelation → List ℕ → List (ℕ × Term) → List Stored → Asking (List Value)
values_set relations user assignments rows = gathered with_row_values [] (λ stored. values_on (map (λ assignment. assignment.1) assignments) (shows relations user) (over user stored.row)) rows

-- the same, what is read being read once
abbrev pub assignments_of : List SecuredRelation → List ℕ → List (ℕ × Term) → List Stored → Asking (List Value)
assignments_of relations user assignments rows = each_once (values_set relations user assignments rows)

-- what the terms of each tuple come to, no row being in scope
abbrev pub values_put : List SecuredRelation → List ℕ → List (List Term) → Asking (List (List Value))
values_put relations user tuples = gathered with_values [] (λ tuple. values_on tuple (shows relations user) (alone user)) tuples

-- the same, what is read being read once
abbrev pub tuples_of : List SecuredRelation → List ℕ → List (List Term) → Asking (List (List Value))
tuples_of relations user tuples = each_once (values_put relations user tuples)
