-- What holds of new rows that nothing is refused for: no null where none may be, and no key twice.
use Rattle.std.specs.Prelude.{◌≡◌, refl, ℕ, zero, suc, ◌+◌, List, [], ◌∷◌, Option, Some, None, Bool, true, false, ◌&&◌, ◌||◌, nat_eq, cond, Result, Ok, Err, if◌then◌else◌, map, slice_get}
use Rattle.std.specs.List.{All, AllByRecursion, list_any}
use Rattle.std.proofs.Common.{arith, ap, sym, ◌∙◌}
use Rattle.std.proofs.lemmas.Bool.{true≢false, eq-eqb, eqb-true, or_right}
use Rattle.std.proofs.{lemmas.List.Elements.All-head, lemmas.List.Elements.All-tail, lemmas.List.Folds.list_any-append}
use Rattle.rls_value.specs.{declared.refusal.Refusal.Refusal, declared.value.Value.Value, Giving.and_then, declared.refusal.Refusal.TheVariants.NotNull, declared.refusal.Refusal.TheVariants.Unique, Values.is_null, Values.value_at}
use Rattle.rls_expr.specs.{declared.table.Column.Column, declared.table.TableDef.TableDef}
use Rattle.rls_guard.specs.rls_catalog.specs.{declared.stored.Stored.Stored, SoundRows.CarriesKey, SoundRows.takes_no_null, State.State, State.rows_of, State.rows_with_key, State.with_key}
use Rattle.rls_guard.specs.rls_source.specs.{Asked.keyed_at, Sequences.each_or_refused}
use Rattle.rls_guard.specs.declared.reply.Decision.{Decision}
use Rattle.rls_dml.specs.Writing.{constraints_or_refused, first_denial, has_doubles, has_values, is_whole, is_written, key_at, keys_of, keys_taken, order_of, rows_or_refused, stays_any, unless_denied, unwritten, value_or_not_null}
use Rattle.rls_dml.proofs.WrittenLemmas.{keyed_of}

-- ---- what is passed

-- it was given
abbrev is_given : {A : Type 0} → Result A Refusal → Bool
is_given (Ok a) = true
is_given (Err refusal) = false

never : {A X : Type 0} (refusal : Refusal) (a : A) → Err refusal ≡ Ok a → X
never refusal a is = absurd (true≢false (sym (ap is_given is)))

-- the first of two tests is passed
first_passed : {B : Type 0} (first : Result (Unit {0}) Refusal) (next : Unit {0} → Result B Refusal) (b : B) → and_then first next ≡ Ok b → first ≡ Ok tt
first_passed (Ok _) next b is = refl
first_passed (Err refusal) next b is = never refusal b is

-- so is the second
next_passed : {B : Type 0} (first : Result (Unit {0}) Refusal) (next : Unit {0} → Result B Refusal) (b : B) → and_then first next ≡ Ok b → next tt ≡ Ok b
next_passed (Ok _) next b is = is
next_passed (Err refusal) next b is = never refusal b is

-- a test that refuses
abbrev refused_if : Bool → Refusal → Result (Unit {0}) Refusal
refused_if b refusal = if b then Err refusal else Ok tt

-- it is passed where there is nothing to refuse
not_refused : (b : Bool) (refusal : Refusal) → refused_if b refusal ≡ Ok tt → b ≡ false
not_refused true refusal is = never refusal tt is
not_refused false refusal is = refl

-- ---- NOT NULL

written_if : (test : ℕ → Result (Unit {0}) Refusal) (b more : Bool) (written place : ℕ) → nat_eq written place ≡ b → test written ≡ Ok tt → (more ≡ true → test place ≡ Ok tt) → (b || more) ≡ true → test place ≡ Ok tt
written_if test true more written place same passed further is = ap test (sym (eqb-true written place same)) ∙ passed
written_if test false more written place same passed further is = further is

-- a test that each of the places passes
passed_at : (test : ℕ → Result (Unit {0}) Refusal) (places : List ℕ) (place : ℕ) → each_or_refused test places ≡ Ok tt → is_written places place ≡ true → test place ≡ Ok tt
passed_at test [] place passed is = absurd (true≢false (sym is))
passed_at test (written ∷ places) place passed is =
    written_if test (nat_eq written place) (is_written places place) written place refl
    (first_passed (test written) (λ _. each_or_refused test places) tt passed)
    (λ more. passed_at test places place (next_passed (test written) (λ _. each_or_refused test places) tt passed) more) is

-- a place that isn't written is among the others
left_if : (b : Bool) (places rest : List ℕ) (start place : ℕ) → is_written places start ≡ b → start ≡ place → (is_written places place || is_written (if b then rest else start ∷ rest) place) ≡ true
left_if true places rest start place is here = ap (λ c. c || is_written rest place) (ap (is_written places) (sym here) ∙ is)
left_if false places rest start place is here =
    or_right (is_written places place) (nat_eq start place || is_written rest place) (ap (λ c. c || is_written rest place) (eq-eqb start place here))

behind_if : (b c : Bool) (first : ℕ) (rest : List ℕ) (place : ℕ) → (c || is_written rest place) ≡ true → (c || is_written (if b then rest else first ∷ rest) place) ≡ true
behind_if b true first rest place is = refl
behind_if true false first rest place is = is
behind_if false false first rest place is = or_right (nat_eq first place) (is_written rest place) is

in_order : (places : List ℕ) (columns : List Column) (start step place : ℕ) → start + step ≡ place → takes_no_null (slice_get columns step) ≡ true
    → (is_written places place || is_written (unwritten places start columns) place) ≡ true
in_order places [] start step place here takes = absurd (true≢false (sym takes))
in_order places (column ∷ columns) start zero place here takes =
    left_if (is_written places start) places (unwritten places (suc start) columns) start place refl (omega (arith, here))
in_order places (column ∷ columns) start (suc step) place here takes =
    behind_if (is_written places start) (is_written places place) start (unwritten places (suc start) columns) place
    (in_order places columns (suc start) step place (omega (arith, here)) takes)

-- each column that takes no null is looked at
looked_at : (places : List ℕ) (columns : List Column) (place : ℕ) → takes_no_null (slice_get columns place) ≡ true → is_written (order_of places columns) place ≡ true
looked_at places columns place takes =
    list_any-append (λ written. nat_eq written place) places (unwritten places 0 columns)
    ∙ in_order places columns 0 place place (omega arith) takes

no_null_if : (not_null null : Bool) (refusal : Refusal) → refused_if (not_null && null) refusal ≡ Ok tt → not_null ≡ true → null ≡ false
no_null_if true null refusal passed takes = not_refused null refusal passed
no_null_if false null refusal passed takes = absurd (true≢false (sym takes))

no_null_in : (column : Option Column) (value : Value) → value_or_not_null column value ≡ Ok tt → takes_no_null column ≡ true → is_null value ≡ false
no_null_in None value passed takes = absurd (true≢false (sym takes))
no_null_in (Some column) value passed takes = no_null_if column.not_null (is_null value) (NotNull column.name) passed takes

-- there is no null in the key
key_no_null : (columns : List Column) (order key : List ℕ) (row : List Value) → ((place : ℕ) → takes_no_null (slice_get columns place) ≡ true → is_null (value_at row place) ≡ false)
    → All (λ place. takes_no_null (slice_get columns place) ≡ true) key → list_any is_null (map (value_at row) key) ≡ false
key_no_null columns order [] row none takes = refl
key_no_null columns order (place ∷ key) row none takes = λ i.
    none place (All-head (λ p. takes_no_null (slice_get columns p) ≡ true) place key takes) i
    || key_no_null columns order key row none (All-tail (λ p. takes_no_null (slice_get columns p) ≡ true) place key takes) i

-- rows whose keys are made of their values
abbrev pub KeysAreMade : TableDef → List Stored → Type 0
KeysAreMade table rows = AllByRecursion (λ stored. stored.key ≡ key_at table.key stored.row) rows

-- a row without a null where none may be carries its key
row_carries : (table : TableDef) (places : List ℕ) (stored : Stored) → All (λ place. takes_no_null (slice_get table.columns place) ≡ true) table.key
    → has_values table.columns (order_of places table.columns) stored ≡ Ok tt → stored.key ≡ key_at table.key stored.row → CarriesKey table (keyed_of stored)
row_carries table places stored takes passed own = record {
  own = own;
  no_null = ap (list_any is_null) own ∙ key_no_null table.columns (order_of places table.columns) table.key stored.row
      (λ place is. no_null_in (slice_get table.columns place) (value_at stored.row place)
      (passed_at (λ p. value_or_not_null (slice_get table.columns p) (value_at stored.row p)) (order_of places table.columns) place passed (looked_at places table.columns place is)) is)
      takes;
}

-- so do all
pub rows_carry : (table : TableDef) (places : List ℕ) (rows : List Stored) → All (λ place. takes_no_null (slice_get table.columns place) ≡ true) table.key
    → each_or_refused (has_values table.columns (order_of places table.columns)) rows ≡ Ok tt → KeysAreMade table rows → AllByRecursion (λ stored. CarriesKey table (keyed_of stored)) rows
rows_carry table places [] takes passed made = tt
rows_carry table places (stored ∷ rows) takes passed made =
    let test : Stored → Result (Unit {0}) Refusal = has_values table.columns (order_of places table.columns) in (
      row_carries table places stored takes (first_passed (test stored) (λ _. each_or_refused test rows) tt passed) made.0,
      rows_carry table places rows takes (next_passed (test stored) (λ _. each_or_refused test rows) tt passed) made.1,
    )

-- ---- the primary key

-- whether one of the keys is that of a row that stays
abbrev are_taken : State → List ℕ → List Stored → List (List Value) → Bool
are_taken s table replaced [] = false
are_taken s table replaced (key ∷ keys) = stays_any replaced (rows_with_key s table key) || are_taken s table replaced keys

taken_given : (s : State) (table : List ℕ) (replaced : List Stored) (keys : List (List Value)) → ((keys_taken table replaced keys).in_state s).gives ≡ Ok (are_taken s table replaced keys)
unfolding keyed_at
taken_given s table replaced [] = refl
taken_given s table replaced (key ∷ keys) =
    ap (λ given. and_then given (λ rest. Ok (stays_any replaced (rows_with_key s table key) || rest))) (taken_given s table replaced keys)

either_false : (a b : Bool) → (a || b) ≡ false → (a ≡ false) × (b ≡ false)
either_false true b is = absurd (true≢false is)
either_false false b is = (refl, is)

-- what new rows, written in the places of others, may have
pub record Pass (s : State) (name : List ℕ) (columns : List Column) (order : List ℕ) (replaced rows : List Stored) : Type 0 where
  pub values : each_or_refused (has_values columns order) rows ≡ Ok tt
  pub free : are_taken s name replaced (keys_of rows) ≡ false
  pub once : has_doubles (keys_of rows) ≡ false

unique_passed : (taken doubles : Bool) (given : Result Bool Refusal) (refusal : Refusal) → given ≡ Ok taken → and_then given (λ b. refused_if (b || doubles) refusal) ≡ Ok tt → (taken || doubles) ≡ false
unique_passed taken doubles given refusal is passed =
    not_refused (taken || doubles) refusal (sym (ap (λ g. and_then g (λ b. refused_if (b || doubles) refusal)) is) ∙ passed)

constraints_passed : (s : State) (name : List ℕ) (columns : List Column) (order : List ℕ) (replaced rows : List Stored)
    → ((constraints_or_refused name columns order replaced rows).in_state s).gives ≡ Ok tt → Pass s name columns order replaced rows
unfolding constraints_or_refused
constraints_passed s name columns order replaced rows passed =
    let unique : Unit {0} → Result (Unit {0}) Refusal =
    λ _. and_then ((keys_taken name replaced (keys_of rows)).in_state s).gives (λ b. refused_if (b || has_doubles (keys_of rows)) (Unique name)) in
    let keys = either_false (are_taken s name replaced (keys_of rows)) (has_doubles (keys_of rows))
    (unique_passed (are_taken s name replaced (keys_of rows)) (has_doubles (keys_of rows)) ((keys_taken name replaced (keys_of rows)).in_state s).gives (Unique name)
    (taken_given s name replaced (keys_of rows)) (next_passed (each_or_refused (has_values columns order) rows) unique tt passed)) in
    record { values = first_passed (each_or_refused (has_values columns order) rows) unique tt passed; free = keys.0; once = keys.1 }

-- where nothing is refused
pub rows_passed : (s : State) (name : List ℕ) (columns : List Column) (order : List ℕ) (decisions : List Decision) (replaced rows : List Stored)
    → ((rows_or_refused name columns order decisions replaced rows).in_state s).gives ≡ Ok tt → Pass s name columns order replaced rows
unfolding rows_or_refused
rows_passed s name columns order decisions replaced rows passed =
    constraints_passed s name columns order replaced rows
    (next_passed (unless_denied name (first_denial decisions)) (λ _. ((constraints_or_refused name columns order replaced rows).in_state s).gives) tt passed)

-- ---- each of the rows

free_if : (w : Bool) (s : State) (name : List ℕ) (replaced : List Stored) (stored : Stored) (rows : List Stored) → is_whole stored.key ≡ w
    → are_taken s name replaced (cond w (stored.key ∷ keys_of rows) (keys_of rows)) ≡ false
    → (is_whole stored.key ≡ true → stays_any replaced (with_key stored.key (rows_of s name)) ≡ false) × (are_taken s name replaced (keys_of rows) ≡ false)
free_if true s name replaced stored rows whole free =
    let parts = either_false (stays_any replaced (with_key stored.key (rows_of s name))) (are_taken s name replaced (keys_of rows)) free in
    (λ _. parts.0, parts.1)
free_if false s name replaced stored rows whole free = (λ is. absurd (true≢false (sym is ∙ whole)), free)

-- the key of none of them is that of a row that stays
pub each_free : (s : State) (name : List ℕ) (replaced rows : List Stored) → are_taken s name replaced (keys_of rows) ≡ false
    → AllByRecursion (λ stored. is_whole stored.key ≡ true → stays_any replaced (with_key stored.key (rows_of s name)) ≡ false) rows
each_free s name replaced [] free = tt
each_free s name replaced (stored ∷ rows) free =
    let parts = free_if (is_whole stored.key) s name replaced stored rows refl free in
    (parts.0, each_free s name replaced rows parts.1)
