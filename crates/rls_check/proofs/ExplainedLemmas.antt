-- Where a statement is explained.
use Rattle.std.specs.Prelude.{◌≡◌, refl, ◌⊎◌, ◌-◌, ◌<◌, ℕ, zero, suc, nat_eq, if◌then◌else◌, Bool, true, List, [], ◌∷◌, length, take, get_or, slice_get, Option, Some, None, Result, Ok, Err, IfOk}
use Rattle.std.specs.declared.alloc.AllocError.{AllocError}
use Rattle.std.proofs.Common.{ap, sym, ◌∙◌, inl, inr, eq-eqb, arith}
use Rattle.rls_value.specs.declared.row.RowId.{RowId}
use Rattle.rls_catalog.specs.State.{State}
use Rattle.rls_catalog.specs.Changed.{opening}
use Rattle.rls_statement.specs.declared.statement.Statement.{Statement}
use Rattle.rls_explain.specs.declared.explanation.Explanation.{Explanation}
use Rattle.rls_check.specs.declared.transaction.Answer.{Answer}
use Rattle.rls_check.specs.declared.transaction.Transaction.{Transaction}
use Rattle.rls_check.specs.declared.explaining.Why.{Why}
use Rattle.rls_check.specs.Audited.{transaction_at, asked_of}
use Rattle.rls_check.specs.Checking.{IsPlaced, IsNoOrder, state_behind}
use Rattle.rls_check.specs.Explaining.{met, ExplainsBehind, SaysWhy, SaysOf, IsExplained, wanted_of}

-- the first is met where it has the number
pub met_here : (ts : List Transaction) (s : State) (place : ℕ) (places : List ℕ) (txn : ℕ) → (transaction_at ts place).txn ≡ txn → met ts s (place ∷ places) txn ≡ Some (transaction_at ts place, s)
met_here ts s place places txn same = ap (λ (b : Bool). if b then Some (transaction_at ts place, s) else met ts (state_behind (transaction_at ts place) s) places txn) (eq-eqb (transaction_at ts place).txn txn same)

-- along an order
pub explained_along : (ts : List Transaction) (numbers places : List ℕ) (txn number : ℕ) (row : Option RowId) (long : Bool) (r : Result (Option Why) AllocError) → IsPlaced ts numbers places
    → IfOk r (SaysOf (met ts opening places txn) number row long) → IfOk r (IsExplained ts numbers txn number row long)
explained_along ts numbers places txn number row long (Ok why) placed h = inl (places, placed, h)
explained_along ts numbers places txn number row long (Err e) placed h = tt

-- where there is none
pub explained_none : (ts : List Transaction) (numbers : List ℕ) (txn number : ℕ) (row : Option RowId) (long : Bool) → IsNoOrder ts numbers → IsExplained ts numbers txn number row long None
explained_none ts numbers txn number row long none = inr (none, refl)

-- there is none of that number
pub no_statement : (it : Transaction) (s : State) (number : ℕ) (row : Option RowId) (long : Bool) → (number ≡ 0) ⊎ (length it.answers < number) → SaysOf (Some (it, s)) number row long None
no_statement it s number row long (inl e) = inl e
no_statement it s number row long (inr over) = inr (inl over)

-- nothing is said of the row that is asked for
pub silent_row : (it : Transaction) (s : State) (number : ℕ) (row : Option RowId) (long : Bool) (asked : Statement) (explanation : Explanation) → slice_get (asked_of it.answers) (number - 1) ≡ Some asked
    → ExplainsBehind it s (asked_of (take (number - 1) it.answers)) asked (wanted_of row long) explanation → (row ≡ None → ⊥) × (explanation.row ≡ []) → SaysOf (Some (it, s)) number row long None
silent_row it s number row long asked explanation there explains silent = inr (inr (asked, there, silent.0, sym explains.rows ∙ silent.1))

-- it is said why
pub says_why : (it : Transaction) (s : State) (number : ℕ) (row : Option RowId) (long : Bool) (asked : Statement) (explanation : Explanation) → 0 < number → slice_get (asked_of it.answers) (number - 1) ≡ Some asked
    → ExplainsBehind it s (asked_of (take (number - 1) it.answers)) asked (wanted_of row long) explanation → (row ≡ None) ⊎ (explanation.row ≡ [] → ⊥)
    → SaysWhy it s number row long (record { txn = it.txn; number = number; statement = asked; row = row; long = long; explanation = explanation })
says_why it s number row long asked explanation counted there explains something =
    record { txn = refl; number_is = refl; counted = counted; row_is = refl; long_is = refl; statement = there; explains = explains; something = something }

-- the statement of the answer at the place
pub asked_at : (answers : List Answer) (place : ℕ) (default : Answer) → place < length answers → slice_get (asked_of answers) place ≡ Some (get_or answers place default).statement
asked_at [] place default l = absurd (omega (arith, l))
asked_at (it ∷ more) zero default l = refl
asked_at (it ∷ more) (suc place) default l = asked_at more place default (omega (arith, l))
