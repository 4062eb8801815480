-- Committed transactions over states, and their history.
use Rattle.std.specs.Prelude.{ℕ, zero, suc, Bool, true, false, not, List, [], ◌∷◌, length, get_or}
use Rattle.rls_history.specs.History.{History}
use Rattle.rls_history.specs.States.{States, put_all, meet}

-- of a transaction: how many had committed when it began, the objects that it noted as read, and its changes
pub record Transaction (s : States) : Type 0 where
  pub snap : ℕ
  pub noted : List s.Object
  pub changes : List s.Change

-- a transaction that did nothing
abbrev pub nobody : (s : States) → Transaction s
nobody s = record { snap = 0; noted = []; changes = [] }

-- the transaction with that commit, counted from 0
abbrev pub nth : (s : States) → List (Transaction s) → ℕ → Transaction s
nth s committed i = get_or committed i (nobody s)

-- the list has no element
abbrev pub is_empty : {X : Type 0} → List X → Bool
is_empty [] = true
is_empty (x ∷ xs) = false

-- the history of transactions in the order of their commits
abbrev pub history_of : (s : States) → List (Transaction s) → History
history_of s committed = record {
  count = length committed;
  snap = λ i. (nth s committed i).snap;
  has_read = λ i j. meet s (nth s committed i).noted (nth s committed j).changes;
  has_written = λ i. not (is_empty (nth s committed i).changes);
}

-- the state after so many commits
abbrev pub state_after : (s : States) → s.State → List (Transaction s) → ℕ → s.State
state_after s opening committed zero = opening
state_after s opening committed (suc n) = put_all s (nth s committed n).changes (state_after s opening committed n)
