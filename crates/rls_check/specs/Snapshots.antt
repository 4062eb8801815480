-- Attempts in the states in which they began, each after as many commits of an audit as had been made then.
use Rattle.std.specs.Prelude.{◌≡◌, ℕ, zero, suc, ◌+◌, Bool, true, false, List, [], ◌∷◌, ◌++◌, map, length, get_or, set, Option, Some, None}
use Rattle.rls_catalog.specs.declared.change.Change.{Change}
use Rattle.rls_catalog.specs.State.{State}
use Rattle.rls_catalog.specs.Changed.{opening, changed_all}
use Rattle.rls_explain.specs.rls_meaning.specs.rls_guard.specs.{declared.effect.Effect.Effect, Effects.changes_of}
use Rattle.rls_agreement.specs.Committing.{state_by}
use Rattle.rls_check.specs.declared.attempts.Attempt.{Attempt}
use Rattle.rls_check.specs.declared.snapshots.Attempts.{Attempts}
use Rattle.rls_check.specs.declared.snapshots.Begun.{Begun}
use Rattle.rls_check.specs.declared.transaction.Transaction.{Transaction}
use Rattle.rls_check.specs.declared.walking.Turn.{Turn}
use Rattle.rls_check.specs.Checking.{IsNoOrder, IsPlaced}
use Rattle.rls_check.specs.GraphHistory.{changed_at}
use Rattle.rls_check.specs.ShownAudits.{FirstDiffers}
use Rattle.rls_check.specs.Walking.{Standing, standings_along}

-- ---- what commits change

-- what the statements of the transactions at so many places, from this one on, changed
abbrev pub changes_from : List Standing → ℕ → ℕ → List (List Change)
changes_from standings place zero = []
changes_from standings place (suc count) = changed_at standings place ∷ changes_from standings (place + 1) count

-- what each commit changed, by the statements of its transaction where all run alone along the places
abbrev pub deltas_along : List Transaction → List ℕ → List (List Change)
deltas_along transactions places = changes_from (standings_along transactions opening places) 0 (length transactions)

-- ---- attempts that begin

-- in the state after as many commits, with these changes, as had been made then
abbrev pub begun_in : List (List Change) → Attempt → Begun
begun_in deltas it = record { attempt = it; state = state_by deltas it.ran.snap }

-- each of them does, and what is found first of the statements along the places
pub record AreBegunAlong (transactions : List Transaction) (places : List ℕ) (its : List Attempt) (it : Attempts) : Type 0 where
  pub begun : it.begun.items ≡ map (begun_in (deltas_along transactions places)) its
  pub differs : FirstDiffers (standings_along transactions opening places) it.differs

-- the same along an order of these numbers; none where they are no order
abbrev pub AreBegun : List Transaction → List ℕ → List Attempt → Option Attempts → Type 0
AreBegun transactions numbers its None = IsNoOrder transactions numbers
AreBegun transactions numbers its (Some it) = (places : List ℕ) × IsPlaced transactions numbers places × AreBegunAlong transactions places its it

-- ---- how they are made

-- what the effect changes, behind what its transaction at the place changed before
abbrev pub put_with : List (List Change) → ℕ → Effect → List (List Change)
put_with deltas place effect = set deltas place (get_or deltas place [] ++ changes_of effect)

-- the same of a turn
abbrev pub put_turn : List (List Change) → Turn → List (List Change)
put_turn deltas turn = put_with deltas turn.place turn.outcome.effect

-- and of one statement after another
abbrev pub put_all : List (List Change) → List Standing → List (List Change)
put_all deltas [] = deltas
put_all deltas (it ∷ more) = put_all (put_with deltas it.place it.effect) more

-- the state, where it is asked for
abbrev pub state_if : Bool → State → Option State
state_if true s = Some s
state_if false s = None

-- the state behind the first of the commits, and the others; the same where there is none
abbrev pub state_next : State → List (List Change) → State
state_next s [] = s
state_next s (delta ∷ deltas) = changed_all s delta

abbrev pub behind_first : List (List Change) → List (List Change)
behind_first [] = []
behind_first (delta ∷ deltas) = deltas

-- the states that are asked for: this one, and those behind it
abbrev pub states_on : State → List (List Change) → List Bool → List (Option State)
states_on s deltas [] = []
states_on s deltas (asked ∷ more) = state_if asked s ∷ states_on (state_next s deltas) (behind_first deltas) more

-- each that is kept is that after as many commits as its place says
pub record AreKeptAfter (deltas : List (List Change)) (kept : List (Option State)) : Type 0 where
  pub each : (commits : ℕ) (s : State) → get_or kept commits None ≡ Some s → s ≡ state_by deltas commits
