-- The catalogue's states, places, objects and changes, as rls_history sees states. The words of this crate need none of it.
use Rattle.std.specs.Prelude.{◌≡◌, ℕ, List, Option, Some, None}
use Rattle.rls_value.specs.declared.object.Object.{Object}
use Rattle.rls_catalog.specs.declared.change.Change.{Change}
use Rattle.rls_catalog.specs.State.{State}
use Rattle.rls_catalog.specs.Changed.{changed}
use Rattle.rls_catalog.specs.InOrder.{RowsInOrder}
use Rattle.rls_catalog.specs.Bases.{Base, base_of}
use Rattle.rls_catalog.specs.Contents.{Content, look, shows_content, was_of, now_of, is_place}
use Rattle.rls_history.specs.States.{States}
use Rattle.rls_history.specs.Transactions as theory
use Rattle.rls_conflict.specs.Transactions.{Transaction}
use Rattle.rls_conflict.specs.Written.{write_one_object}

-- states with what stands at each place, and changes
abbrev pub states : States
states = record {
  State = State;
  Place = Base;
  Content = Content;
  Object = Object;
  Change = Change;
  look = look;
  put = λ change s. changed s change;
  place_of = base_of;
  before_of = was_of;
  after_of = now_of;
  is_same = is_place;
  shows = shows_content;
  share = write_one_object;
}

-- what rls_history knows of a transaction
abbrev pub known_of : Transaction → theory.Transaction states
known_of txn = record { snap = txn.snap; noted = txn.noted; changes = txn.changes }

-- the rows of each table stand in order of their numbers, each number once
abbrev pub InOrder : State → Type 0
InOrder s = (table : List ℕ) → RowsInOrder s table

-- the primary key of a table that stands there
abbrev pub key_in : Content → Option (List ℕ)
key_in (Content.Table (Some def)) = Some def.key
key_in _ = None

-- the key is there later, if it was there
abbrev pub Outlasts : Option (List ℕ) → Option (List ℕ) → Type 0
Outlasts (Some key) later = later ≡ Some key
Outlasts None later = Unit {0}

-- a table stays, with its primary key
abbrev pub Lasts : Base → Content → Content → Type 0
Lasts place content later = Outlasts (key_in content) (key_in later)
