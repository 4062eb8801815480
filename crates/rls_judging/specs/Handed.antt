-- What the code is handed, as the definitions have it.
use Rattle.std.specs.Borrow.{Bor}
use Rattle.std.specs.Prelude.{List, ◌++◌, Bool, Result, Ok, Err, map}
use Rattle.std.specs.declared.vec.Vec.{Vec}
use Rattle.std.proofs.Common.{Global}
use Rattle.rls_value.specs.{declared.value.Value.Value}
use Rattle.rls_guard.specs.rls_catalog.specs.{declared.stored.Stored.Stored}
use Rattle.rls_evaluation.specs.{declared.datum.Datum.Datum, Scoping.datum_value}
use Rattle.rls_guard.specs.{declared.reply.Decision.Decision}
use Rattle.rls_judging.specs.Judging.{are_allowed}

-- what a call leaves behind, beside what it gives
abbrev pub beside : {A B E : Type 0} → A → Result B E → Result (A × B) E
beside left (Ok b) = Ok (left, b)
beside left (Err refused) = Err refused

-- the decisions on a row behind those before, and whether they all allow it
abbrev pub allowing : List Decision → List Decision → List Decision × Bool
allowing before decisions = (before ++ decisions, are_allowed decisions)

-- what was found of a row behind the decisions before
abbrev pub behind : List Decision → List Decision × Bool → List Decision × Bool
behind before judged = (before ++ judged.0, judged.1)

-- the borrowed rows
abbrev pub rows_borrowed : Vec (Bor Stored) Global → List Stored
rows_borrowed rows = map (λ row. row.now) rows.items

-- decisions and borrowed rows, of a call that may fail
abbrev pub judged_now : {E : Type 0} → Result (Vec Decision Global × Vec (Bor Stored) Global) E → Result (List Decision × List Stored) E
judged_now (Ok (decisions, qualifying_rows)) = Ok (decisions.items, rows_borrowed qualifying_rows)
judged_now (Err refused) = Err refused

-- a list, of a call that may fail
abbrev pub items_now : {A E : Type 0} → Result (Vec A Global) E → Result (List A) E
items_now (Ok xs) = Ok xs.items
items_now (Err refused) = Err refused

-- the values, wherever their texts stand
abbrev pub datum_values : Vec Datum Global → List Value
datum_values datum = map datum_value datum.items

-- the same of a call that may fail
abbrev pub datum_values_all : {E : Type 0} → Result (Vec Datum Global) E → Result (List Value) E
datum_values_all (Ok datum) = Ok (datum_values datum)
datum_values_all (Err refused) = Err refused

-- the same of lists of them
abbrev pub datum_values_each : {E : Type 0} → Result (Vec (Vec Datum Global) Global) E → Result (List (List Value)) E
datum_values_each (Ok datum) = Ok (map datum_values datum.items)
datum_values_each (Err refused) = Err refused
