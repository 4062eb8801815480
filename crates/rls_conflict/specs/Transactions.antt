-- Committed transactions in the order of their commits: the one with commit n stands at place n - 1. Which committed before
-- another began, which are concurrent, and which rw-antidependencies there are, are the words of rls_history, at their history
-- (Ports and Grittner, VLDB 2012, 3.1).
use Rattle.std.specs.Prelude.{ℕ, Bool, not, List, [], length, get_or}
use Rattle.std.specs.List.{list_any}
use Rattle.rls_value.specs.declared.object.Object.{Object}
use Rattle.rls_catalog.specs.{declared.change.Change.Change, Bases.covers_any}
use Rattle.rls_history.specs.History.{History}
use Rattle.rls_history.specs.Transactions.{is_empty}

-- a transaction: its number, how many had committed when it began, the objects that it noted as read, and its changes
pub record Transaction : Type 0 where
  pub number : ℕ
  pub snap : ℕ
  pub noted : List Object
  pub changes : List Change

-- one that did nothing
abbrev pub nobody : Transaction
nobody = record { number = 0; snap = 0; noted = []; changes = [] }

-- the one at the place
abbrev pub at : List Transaction → ℕ → Transaction
at transactions place = get_or transactions place nobody

-- one of the objects is covered by one of the changes
abbrev pub reads_from : List Object → List Change → Bool
reads_from noted changes = list_any (λ object. covers_any object changes) noted

-- their history: who began after how many commits, who read what whom changed, and who changed something
abbrev pub history_of : List Transaction → History
history_of transactions = record {
  count = length transactions;
  snap = λ place. (at transactions place).snap;
  has_read = λ one other. reads_from (at transactions one).noted (at transactions other).changes;
  has_written = λ place. not (is_empty (at transactions place).changes);
}
