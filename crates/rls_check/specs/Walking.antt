-- The statements of an audit along its order, each with what it is run in, what it comes to and what it reads, where all run alone.
use Rattle.std.specs.Prelude.{◌≡◌, ◌↔◌, ◌⊎◌, ℕ, suc, ◌+◌, Bool, true, List, [], ◌∷◌, ◌++◌, drop, Option, Some, None}
use Rattle.rls_value.specs.declared.object.Object.{Object}
use Rattle.rls_catalog.specs.State.{State}
use Rattle.rls_catalog.specs.Changed.{opening, changed_all}
use Rattle.rls_explain.specs.rls_meaning.specs.rls_guard.specs.{declared.context.Ctx.Ctx, declared.effect.Effect.Effect, Effects.changes_of}
use Rattle.rls_audit.specs.rls_access.specs.Statements.{role_after}
use Rattle.rls_audit.specs.rls_access.specs.Transactions.{ctx_after}
use Rattle.rls_explain.specs.rls_meaning.specs.Meaning.{effect_of}
use Rattle.rls_audit.specs.rls_core.specs.Alone.{state_alone}
use Rattle.rls_audit.specs.rls_core.specs.Theory.{read_by}
use Rattle.rls_check.specs.declared.transaction.Answer.{Answer}
use Rattle.rls_check.specs.declared.transaction.Transaction.{Transaction}
use Rattle.rls_check.specs.declared.walking.Running.{Running}
use Rattle.rls_check.specs.declared.walking.Turn.{Turn}
use Rattle.rls_check.specs.declared.walking.Walk.{Walk}
use Rattle.rls_check.specs.Audited.{transaction_at, asked_of}
use Rattle.rls_check.specs.Checking.{ctx_of, state_behind, IsAnswer, IsPlaced, IsNoOrder}

-- ---- the statements

-- a statement: the place of its transaction in the order of commits, and its own number there, counted from 1; the state and the
-- context that it is run in; what the audit shows of it; what it comes to, and what it reads
pub record Standing : Type 0 where
  pub place : ℕ
  pub number : ℕ
  pub before : State
  pub ctx : Ctx
  pub shown : Answer
  pub effect : Effect
  pub reads : List Object

-- that of this number, in this context and state
abbrev pub standing_of : ℕ → ℕ → Ctx → State → Answer → Standing
standing_of place number ctx s it = record { place = place; number = number; before = s; ctx = ctx; shown = it; effect = effect_of s ctx it.statement; reads = read_by ctx it.statement s }

-- those of a transaction from this number on, each in what the one before it leaves
abbrev pub standings_alone : ℕ → ℕ → Ctx → State → List Answer → List Standing
standings_alone place number ctx s [] = []
standings_alone place number ctx s (it ∷ more) =
    let effect = effect_of s ctx it.statement in
    standing_of place number ctx s it ∷ standings_alone place (number + 1) (ctx_after ctx effect) (changed_all s (changes_of effect)) more

-- those of the transactions at the places, run alone one after another from the state
abbrev pub standings_along : List Transaction → State → List ℕ → List Standing
standings_along transactions s [] = []
standings_along transactions s (place ∷ places) =
    let it = transaction_at transactions place in
    standings_alone place 1 (ctx_of it) s it.answers ++ standings_along transactions (state_behind it s) places

-- ---- a turn

-- the turn tells the statement; it agrees where the statement comes to what the audit shows of it
pub record IsTurn (standing : Standing) (turn : Turn) : Type 0 where
  pub place : turn.place ≡ standing.place
  pub number : turn.number ≡ standing.number
  pub before : turn.before ≡ standing.before
  pub ctx : turn.ctx ≡ standing.ctx
  pub statement : turn.statement ≡ standing.shown.statement
  pub effect : turn.outcome.effect ≡ standing.effect
  pub reads : turn.outcome.footprint ≡ standing.reads
  pub role : turn.outcome.role ≡ role_after standing.ctx.role standing.effect
  pub agrees : (turn.agrees ≡ true) ↔ IsAnswer standing.shown standing.effect

-- the turn is that of the first of them, and these are the others
abbrev pub IsNext : List Standing → Turn → List Standing → Type 0
IsNext [] turn more = ⊥
IsNext (standing ∷ others) turn more = IsTurn standing turn × (more ≡ others)

-- it tells what its statement means
abbrev pub IsMeant : Turn → Type 0
IsMeant turn = turn.outcome.effect ≡ effect_of turn.before turn.ctx turn.statement

-- ---- a walk

-- what is still to come of the transaction that runs, and the state that it will leave
abbrev pub left_alone : Running → List Standing
left_alone it = standings_alone it.place (it.given + 1) it.ctx it.state (drop it.given it.answers)

abbrev pub state_to_come : Running → State
state_to_come it = state_alone it.ctx (asked_of (drop it.given it.answers)) it.state

-- what is still to come
abbrev pub left : Walk → List Standing
left walk = left_alone walk.running ++ standings_along walk.transactions.now (state_to_come walk.running) (drop walk.begun walk.places.items)

-- the state behind the last turn that was given
abbrev pub state_left : Walk → State
state_left walk = walk.running.state

-- a walk along an order of these numbers, from the opening state; none where they are no order
abbrev pub IsWalk : List Transaction → List ℕ → Option Walk → Type 0
IsWalk transactions numbers None = IsNoOrder transactions numbers
IsWalk transactions numbers (Some walk) =
    (places : List ℕ) × IsPlaced transactions numbers places × (left walk ≡ standings_along transactions opening places) × (state_left walk ≡ opening)
