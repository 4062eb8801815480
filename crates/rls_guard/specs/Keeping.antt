-- What a statement that is done leaves of a state, with its changes put on.
use Rattle.std.specs.Prelude.{◌≡◌, ℕ, List, Some, Result, Ok, Err}
use Rattle.std.specs.List.{AllByRecursion}
use Rattle.rls_evaluation.specs.rls_catalog.specs.rls_expr.specs.rls_value.specs.declared.refusal.Refusal.{Refusal}
use Rattle.rls_evaluation.specs.rls_catalog.specs.declared.change.Change.{Change}
use Rattle.rls_evaluation.specs.rls_catalog.specs.declared.change.Change.TheVariants as c
use Rattle.rls_evaluation.specs.rls_catalog.specs.rls_expr.specs.declared.table.TableDef.{TableDef}
use Rattle.rls_evaluation.specs.rls_catalog.specs.State.{State, table_of}
use Rattle.rls_evaluation.specs.rls_catalog.specs.Changed.{changed_all}
use Rattle.rls_evaluation.specs.rls_catalog.specs.SoundRows.{RowsAreSound}
use Rattle.rls_evaluation.specs.rls_source.specs.Askings.{Asking}
use Rattle.rls_guard.specs.declared.effect.Effect.{Effect}
use Rattle.rls_guard.specs.declared.effect.Effect.TheVariants as effect

-- what holds of the changes of a statement, if it is done
abbrev pub IfDone : Result Effect Refusal → (List Change → Type 0) → Type 0
IfDone (Ok (effect.Done reply decisions changes role)) fact = fact changes
IfDone (Ok (effect.Refused refusal decisions)) fact = Unit {0}
IfDone (Err refusal) fact = Unit {0}

-- it leaves sound rows sound
abbrev pub KeepsRowsSound : Asking Effect → Type 0
KeepsRowsSound asking = (s : State) → RowsAreSound s → IfDone (asking.in_state s).gives (λ changes. RowsAreSound (changed_all s changes))

-- the change is not one of a row
abbrev pub IsNoRow : Change → Type 0
IsNoRow (c.Row change) = ⊥
IsNoRow _ = Unit {0}

-- it writes no row
abbrev pub WritesNoRow : Asking Effect → Type 0
WritesNoRow asking = (s : State) → IfDone (asking.in_state s).gives (AllByRecursion IsNoRow)

-- each table of the state is there after the changes, with its primary key
abbrev pub TablesStay : State → List Change → Type 0
TablesStay s changes = (name : List ℕ) (def : TableDef) → table_of s name ≡ Some def → (later : TableDef) × (table_of (changed_all s changes) name ≡ Some later) × (later.key ≡ def.key)

-- it leaves each table, with its primary key
abbrev pub KeepsTables : Asking Effect → Type 0
KeepsTables asking = (s : State) → RowsAreSound s → IfDone (asking.in_state s).gives (TablesStay s)

-- it writes no row, and leaves sound rows sound, and the tables
pub record LeavesRows (asking : Asking Effect) : Type 0 where
  pub writes_none : WritesNoRow asking
  pub sound : KeepsRowsSound asking
  pub tables : KeepsTables asking
