-- The value of a term where no table shows a row: of an item that is listed, which has no subquery, so that no table is asked
-- for it.
use Rattle.std.specs.Prelude.{[], Result, Ok, Err}
use Rattle.rls_value.specs.{declared.refusal.Refusal.Refusal, declared.value.Value.Value, declared.value.Value.TheVariants.Null}
use Rattle.rls_source.specs.rls_catalog.specs.rls_expr.specs.Terms.{Term}
use Rattle.rls_verdict.specs.rls_catalog.specs.State.{State}
use Rattle.rls_source.specs.Askings.{known}
use Rattle.rls_evaluation.specs.{Environments.Environment, Eval.Shows, Eval.value_of}

-- a state without objects
abbrev pub no_objects : State
no_objects = record { roles = []; members = []; tables = []; grants = []; policies = []; rows = [] }

-- no table shows a row
abbrev pub no_rows : Shows
no_rows table key = known (Ok [])

-- what is given; null for a refusal, which no value is
abbrev pub value_given : Result Value Refusal → Value
value_given (Ok v) = v
value_given (Err refusal) = Null

-- the value in the environment, where no table shows a row
abbrev pub value_in : Term → Environment → Value
value_in t env = value_given ((value_of t no_rows env).in_state no_objects).gives
