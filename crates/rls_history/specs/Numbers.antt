-- A small database: numbers stand under names, which are numbers too. A statement reads one name, or puts a number under it.
use Rattle.std.specs.Prelude.{ℕ, ◌==◌, true, cond, List, [], ◌∷◌, ◌++◌, map}
use Rattle.rls_history.specs.Structures.{is_dangerous}
use Rattle.rls_history.specs.States.{States}
use Rattle.rls_history.specs.Statements.{Outcome, Statements}
use Rattle.rls_history.specs.Explained.{Entry}
use Rattle.rls_history.specs.Events.{after}
use Rattle.rls_history.specs.Worlds.{Setup, Event}
use Rattle.rls_history.specs.Worlds.Event.{Begin, Post, Commit}
use Rattle.rls_history.specs.Lawful.{Conditions}

-- a statement
pub data Asked : Type 0 where
  Get : (name : ℕ) → Asked
  Put : (name number : ℕ) → Asked

-- a change: the number under the name
pub record Placed : Type 0 where
  pub name : ℕ
  pub number : ℕ

-- names are the places and the objects
abbrev pub states : States
states = record {
  State = ℕ → ℕ;
  Place = ℕ;
  Content = ℕ;
  Object = ℕ;
  Change = Placed;
  look = λ state name. state name;
  put = λ change state name. cond (name == change.name) change.number (state name);
  place_of = λ change. change.name;
  before_of = λ change. 0;
  after_of = λ change. change.number;
  is_same = λ name other. name == other;
  shows = λ object name content. object == name;
  share = λ change other. change.name == other.name;
}

-- what a statement comes to
abbrev pub outcome_of : ℕ → Asked → (ℕ → ℕ) → Outcome Placed ℕ ℕ
outcome_of txn (Get name) state = record { reply = state name; changes = []; next = txn }
outcome_of txn (Put name number) state = record { reply = number; changes = record { name = name; number = number } ∷ []; next = txn }

-- the names that it reads
abbrev pub read_by : Asked → List ℕ
read_by (Get name) = name ∷ []
read_by (Put name number) = []

-- a transaction goes on with its number
abbrev pub statements : Statements states
statements = record {
  Context = ℕ;
  Statement = Asked;
  Reply = ℕ;
  Start = Unit {0};
  step = outcome_of;
  reads = λ txn asked state. read_by asked;
  begin = λ txn start. txn;
  admits = λ start state. true;
  no_context = 0;
}

-- nothing is asked of a state
abbrev pub conditions : Conditions statements
conditions = record {
  InOrder = λ state. Unit {0};
  IsSound = λ state. Unit {0};
  CanGoOn = λ txn state. Unit {0};
  IsFree = λ txn state. Unit {0};
  Follows = λ name one other. Unit {0};
  number_of = λ txn. txn;
}

-- 0 under each name; all that is read is noted; and the test at a commit is that for dangerous structures
abbrev pub setup : Setup statements
setup = record { opening = λ name. 0; note = λ noted read. noted ++ read; test = is_dangerous }

-- a reader begins, a writer changes two numbers and commits, and then the reader reads one of them
abbrev pub raced : List (Event (Unit {0}) Asked)
raced = Begin tt ∷ Begin tt ∷ Post 2 (Put 0 1) ∷ Post 2 (Put 1 7) ∷ Commit 2 ∷ Post 1 (Get 0) ∷ Post 1 (Get 1) ∷ Commit 1 ∷ []

-- two transactions read both numbers, and then each changes one
abbrev pub skewed : List (Event (Unit {0}) Asked)
skewed =
    Begin tt ∷ Begin tt ∷ Post 1 (Get 0) ∷ Post 1 (Get 1) ∷ Post 2 (Get 0) ∷ Post 2 (Get 1)
    ∷ Post 1 (Put 1 7) ∷ Post 2 (Put 0 7) ∷ Commit 1 ∷ Commit 2 ∷ []

-- the number of the open batch is read, the batch is closed, a report reads the new number and the receipts, and a receipt comes
-- in under the old number
abbrev pub reported : List (Event (Unit {0}) Asked)
reported =
    Begin tt ∷ Post 1 (Get 0) ∷ Begin tt ∷ Post 2 (Get 0) ∷ Post 2 (Put 0 8) ∷ Commit 2
    ∷ Begin tt ∷ Post 3 (Get 0) ∷ Post 3 (Get 1) ∷ Commit 3 ∷ Post 1 (Put 1 100) ∷ Commit 1 ∷ []

-- two transactions change one number
abbrev pub written_twice : List (Event (Unit {0}) Asked)
written_twice = Begin tt ∷ Begin tt ∷ Post 1 (Put 0 7) ∷ Post 2 (Put 0 8) ∷ []

-- the numbers of the transactions that committed, in the order of their commits
abbrev pub who_committed : List (Event (Unit {0}) Asked) → List ℕ
who_committed events = map (λ (entry : Entry statements). entry.start) (after setup 1 events).committed
