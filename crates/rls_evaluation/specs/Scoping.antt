-- What the code is handed, as the definitions have it.
use Rattle.std.specs.Borrow.{Bor}
use Rattle.std.specs.Prelude.{ℕ, ℤ, List, [], ◌∷◌, Option, Some, None, Result, Ok, Err}
use Rattle.rls_value.specs.declared.value.Value.{Value}
use Rattle.rls_value.specs.declared.value.Value.TheVariants as v
use Rattle.rls_evaluation.specs.declared.scope.Scoped.{Scoped, Nothing, Over'}
use Rattle.rls_evaluation.specs.declared.scope.Env.{Env}
use Rattle.rls_evaluation.specs.declared.datum.Datum.{Datum}
use Rattle.rls_evaluation.specs.declared.datum.Datum.TheVariants.{Null, Int, Text, Own, Name, Bool}
use Rattle.rls_evaluation.specs.Environments.{Environment}

-- the rows in scope
abbrev pub rows_in : Scoped → List (List Value)
rows_in Nothing = []
rows_in (Over' row p outer) = row.now ∷ rows_in outer

-- the role and the rows in scope
abbrev pub env_of : Env → Environment
env_of env = record { user = env.user.now; rows = rows_in env.rows }

-- the value, wherever its text stands
abbrev pub datum_value : Datum → Value
datum_value Null = v.Null
datum_value (Int n) = v.Int n
datum_value (Text t) = v.Text t.now
datum_value (Own t) = v.Text t
datum_value (Name name) = v.Text name.now
datum_value (Bool b) = v.Bool b

-- the same, if there is one
abbrev pub maybe_datum : Option Datum → Option Value
maybe_datum None = None
maybe_datum (Some datum) = Some (datum_value datum)

-- the same of a call that may fail
abbrev pub datum_now : {E : Type 0} → Result Datum E → Result Value E
datum_now (Ok datum) = Ok (datum_value datum)
datum_now (Err refused) = Err refused

-- the text of a value, if it is one
abbrev pub text_in : Value → Option (List ℕ)
text_in (v.Text t) = Some t
text_in _ = None

-- a text that is borrowed, if there is one
abbrev pub text_now : Option (Bor (List ℕ)) → Option (List ℕ)
text_now None = None
text_now (Some text) = Some text.now

-- a value that may be missing, of a call that may fail
abbrev pub maybe_now : {E : Type 0} → Result (Option Datum) E → Result (Option Value) E
maybe_now (Ok datum) = Ok (maybe_datum datum)
maybe_now (Err refused) = Err refused

-- a number, or null
abbrev pub number_value : Option ℤ → Value
number_value None = v.Null
number_value (Some n) = v.Int n
