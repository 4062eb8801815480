-- Where in the run along an order a statement stands, and what is said of it.
use Rattle.std.specs.Prelude.{◌≡◌, ◌⊎◌, ◌-◌, ◌<◌, ℕ, nat_eq, Bool, true, false, if◌then◌else◌, List, [], ◌∷◌, length, take, slice_get, Option, Some, None}
use Rattle.rls_value.specs.declared.row.RowId.{RowId}
use Rattle.rls_catalog.specs.State.{State}
use Rattle.rls_catalog.specs.Changed.{opening, changed_all}
use Rattle.rls_statement.specs.declared.statement.Statement.{Statement}
use Rattle.rls_explain.specs.rls_meaning.specs.rls_guard.specs.{declared.context.Ctx.Ctx, Effects.changes_of}
use Rattle.rls_audit.specs.rls_access.specs.Transactions.{ctx_after}
use Rattle.rls_explain.specs.rls_meaning.specs.Meaning.{effect_of}
use Rattle.rls_audit.specs.rls_core.specs.Alone.{state_alone}
use Rattle.rls_explain.specs.declared.explanation.{Explanation.Explanation, Explained.Explained, Wanted.Wanted}
use Rattle.rls_explain.specs.Explaining.{explained_in}
use Rattle.rls_check.specs.declared.transaction.Transaction.{Transaction}
use Rattle.rls_check.specs.declared.explaining.Why.{Why}
use Rattle.rls_check.specs.Audited.{transaction_at, asked_of}
use Rattle.rls_check.specs.Checking.{ctx_of, state_behind, IsPlaced, IsNoOrder}

-- the transaction of that number, and the state before it, where those at the places run alone from the state
abbrev pub met : List Transaction → State → List ℕ → ℕ → Option (Transaction × State)
met transactions s [] txn = None
met transactions s (place ∷ places) txn =
    let it = transaction_at transactions place in
    if nat_eq it.txn txn then Some (it, s) else met transactions (state_behind it s) places txn

-- what the next statement is run in, behind these
abbrev pub ctx_alone : Ctx → List Statement → State → Ctx
ctx_alone ctx [] s = ctx
ctx_alone ctx (asked ∷ more) s = ctx_alone (ctx_after ctx (effect_of s ctx asked)) more (changed_all s (changes_of (effect_of s ctx asked)))

-- the decisions that are explained: at length those on the row or all, else those on the row
abbrev pub wanted_of : Option RowId → Bool → Option Wanted
wanted_of row true = Some (record { row = row; long = true })
wanted_of (Some id) false = Some (record { row = Some id; long = false })
wanted_of None false = None

-- the explanation is that of the statement in the state and the context
pub record Explains (s : State) (ctx : Ctx) (asked : Statement) (wanted : Option Wanted) (it : Explanation) : Type 0 where
  pub role : it.role ≡ ctx.role
  pub effect : it.effect ≡ effect_of s ctx asked
  pub rows : it.row ≡ explained_in s ctx asked wanted

-- the explanation is that of the statement behind these, of the transaction that runs alone in the state
abbrev pub ExplainsBehind : Transaction → State → List Statement → Statement → Option Wanted → Explanation → Type 0
ExplainsBehind it s before asked wanted explanation =
    Explains (state_alone (ctx_of it) before s) (ctx_alone (ctx_of it) before s) asked wanted explanation

-- what is said of the row by the statement behind these, of the transaction that runs alone in the state
abbrev pub said_behind : Transaction → State → List Statement → Statement → Option Wanted → List Explained
said_behind it s before asked wanted = explained_in (state_alone (ctx_of it) before s) (ctx_alone (ctx_of it) before s) asked wanted

-- it is said why the statement of that number, counted from 1, did what it did; of a row that is asked for, something is said
pub record SaysWhy (it : Transaction) (s : State) (number : ℕ) (row : Option RowId) (long : Bool) (why : Why) : Type 0 where
  pub txn : why.txn ≡ it.txn
  pub number_is : why.number ≡ number
  pub counted : 0 < number
  pub row_is : why.row ≡ row
  pub long_is : why.long ≡ long
  pub statement : slice_get (asked_of it.answers) (number - 1) ≡ Some why.statement
  pub explains : ExplainsBehind it s (asked_of (take (number - 1) it.answers)) why.statement (wanted_of row long) why.explanation
  pub something : (row ≡ None) ⊎ (why.explanation.row ≡ [] → ⊥)

-- there is nothing to say: no statement of that number, or no decision of it on the row that is asked for
abbrev pub IsSilent : Transaction → State → ℕ → Option RowId → Bool → Type 0
IsSilent it s number row long =
    (number ≡ 0) ⊎ ((length it.answers < number)
    ⊎ ((asked : Statement) × (slice_get (asked_of it.answers) (number - 1) ≡ Some asked) × (row ≡ None → ⊥) × (said_behind it s (asked_of (take (number - 1) it.answers)) asked (wanted_of row long) ≡ [])))

-- there is no such transaction; or it is said why its statement did what it did, where there is something to say
abbrev pub SaysOf : Option (Transaction × State) → ℕ → Option RowId → Bool → Option Why → Type 0
SaysOf None number row long why = why ≡ None
SaysOf (Some found) number row long None = IsSilent found.0 found.1 number row long
SaysOf (Some found) number row long (Some why) = SaysWhy found.0 found.1 number row long why

-- it is said so along an order of these numbers; nothing is where they are no order
abbrev pub IsExplained : List Transaction → List ℕ → ℕ → ℕ → Option RowId → Bool → Option Why → Type 0
IsExplained transactions numbers txn number row long why =
    ((places : List ℕ) × IsPlaced transactions numbers places × SaysOf (met transactions opening places txn) number row long why) ⊎ (IsNoOrder transactions numbers × (why ≡ None))
