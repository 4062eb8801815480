-- The committed states: the opening one, and behind it one for each commit, which is the one before with the changes of the commit
-- on.
use Rattle.std.specs.Prelude.{◌≡◌, ℕ, ◌<◌, ◌-◌, List, [], ◌∷◌, ◌++◌, length, get_or, refl}
use Rattle.std.specs.Coded.{Coded, code_by, coded×, coded_list, coded_ℕ}
use Rattle.rls_catalog.specs.declared.change.Change.{Change}
use Rattle.rls_catalog.specs.State.{State}
use Rattle.rls_catalog.specs.StateCode.{state_code}
use Rattle.rls_catalog.specs.Changed.{opening, changed_all}

-- the states, and for how many more there is room
pub record Stored : Type 0 where
  pub states : List State
  pub room : ℕ

-- there is one
abbrev pub IsThere : List State → Type 0
IsThere states = 0 < length states

-- the last of them
abbrev pub newest_of : List State → State
newest_of states = get_or states (length states - 1) opening

-- the states behind this one, one for each list of changes
abbrev pub states_from : State → List (List Change) → List State
states_from s [] = s ∷ []
states_from s (changes ∷ more) = s ∷ states_from (changed_all s changes) more

-- the states of commits with these changes
abbrev pub states_by : List (List Change) → List State
states_by deltas = states_from opening deltas

-- the code of the states and the room
abbrev pub stored_code : Coded Stored
stored_code = code_by (List State × ℕ) (coded× (coded_list state_code) coded_ℕ) (λ s. (s.states, s.room)) (λ p. record { states = p.0; room = p.1 }) (λ _. refl)
