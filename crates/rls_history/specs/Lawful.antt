-- What is asked of states and statements, for the laws to hold of them.
use Rattle.std.specs.Prelude.{ℕ, ◌≡◌, true, cond, List, ◌⊎◌}
use Rattle.rls_history.specs.States.{States, IsAmong, put_all, Fits, Agree, Apart}
use Rattle.rls_history.specs.Structures.{Finds}
use Rattle.rls_history.specs.Statements.{Statements}
use Rattle.rls_history.specs.Worlds.{Setup}

-- what may be asked of states, of contexts, and of contents that follow one another at a place
pub record Conditions {s : States} (m : Statements s) : Type 1 where
  -- changes can be put on it
  pub InOrder : s.State → Type 0
  -- statements can be run in it
  pub IsSound : s.State → Type 0
  -- a transaction can go on from it in this context
  pub CanGoOn : m.Context → s.State → Type 0
  -- nothing in it is of the transaction of this number
  pub IsFree : ℕ → s.State → Type 0
  -- the second content may come after the first at the place
  pub Follows : s.Place → s.Content → s.Content → Type 0
  -- the number of the transaction
  pub number_of : m.Context → ℕ

-- a change put on a state in order leaves its content at its place, all else as it was, and the state in order
pub record PutsAre (s : States) (InOrder : s.State → Type 0) : Type 0 where
  pub same_is : (place other : s.Place) → s.is_same place other ≡ true → place ≡ other
  pub same_self : (place : s.Place) → s.is_same place place ≡ true
  pub stays : (change : s.Change) (state : s.State) → InOrder state → InOrder (s.put change state)
  pub looks : (change : s.Change) (state : s.State) → InOrder state → (place : s.Place)
      → s.look (s.put change state) place ≡ cond (s.is_same place (s.place_of change)) (s.after_of change) (s.look state place)

-- one of the changes was made at the place, and left what stands there
abbrev pub IsLeftBy : (s : States) → List s.Change → s.Place → s.Content → Type 0
IsLeftBy s changes place content = (change : s.Change) × IsAmong change changes × (s.place_of change ≡ place) × (s.after_of change ≡ content)

-- At the place the state `joined` has what `mine` has, where one of my changes was the last to be made there, and else what
-- `theirs` has, which is what the snapshot has unless one of their changes was the last.
abbrev pub Joins : (s : States) → (snapshot mine theirs joined : s.State) → (changes others : List s.Change) → s.Place → Type 0
Joins s snapshot mine theirs joined changes others place =
    ((s.look joined place ≡ s.look mine place) × (s.look theirs place ≡ s.look snapshot place) × IsLeftBy s changes place (s.look mine place))
    ⊎ ((s.look joined place ≡ s.look theirs place) × (s.look mine place ≡ s.look snapshot place)
    × ((s.look theirs place ≡ s.look snapshot place) ⊎ IsLeftBy s others place (s.look theirs place)))

-- what is asked of states and statements
pub record IsLawful {s : States} {m : Statements s} (c : Conditions m) : Type 0 where
  pub puts : PutsAre s c.InOrder
  -- the frame law: on states that agree on what a statement read it comes to the same
  pub frame : (context : m.Context) (asked : m.Statement) (state other : s.State) → c.InOrder state → c.InOrder other
      → ((o : s.Object) → IsAmong o (m.reads context asked state) → Agree s o state other) → m.step context asked state ≡ m.step context asked other
  -- changes that share an object, either way round; those of one place do
  pub turned : (change other : s.Change) → s.share change other ≡ true → s.share other change ≡ true
  pub same_place : (change other : s.Change) → s.place_of change ≡ s.place_of other → s.share change other ≡ true
  -- one statement in a sound state that the transaction can go on from: its changes fit, and it can go on from what they leave
  pub in_order : (state : s.State) → c.IsSound state → c.InOrder state
  pub fits : (context : m.Context) (asked : m.Statement) (state : s.State) → c.IsSound state → c.CanGoOn context state → Fits s (m.step context asked state).changes state
  pub sound : (context : m.Context) (asked : m.Statement) (state : s.State) → c.IsSound state → c.CanGoOn context state → c.IsSound (put_all s (m.step context asked state).changes state)
  pub goes_on : (context : m.Context) (asked : m.Statement) (state : s.State) → c.IsSound state → c.CanGoOn context state
      → c.CanGoOn (m.step context asked state).next (put_all s (m.step context asked state).changes state)
  -- it keeps its transaction's number, and uses no other
  pub number : (context : m.Context) (asked : m.Statement) (state : s.State) → c.number_of (m.step context asked state).next ≡ c.number_of context
  pub free : (context : m.Context) (asked : m.Statement) (state : s.State) (txn : ℕ) → c.IsSound state → c.CanGoOn context state → (txn ≡ c.number_of context → ⊥) → c.IsFree txn state
      → c.IsFree txn (put_all s (m.step context asked state).changes state)
  pub follows : (context : m.Context) (asked : m.Statement) (state : s.State) → c.IsSound state → c.CanGoOn context state → (place : s.Place)
      → c.Follows place (s.look state place) (s.look (put_all s (m.step context asked state).changes state) place)
  -- a transaction that begins
  pub begins : (txn : ℕ) (start : m.Start) (state : s.State) → c.IsFree txn state → c.CanGoOn (m.begin txn start) state
  pub numbered : (txn : ℕ) (start : m.Start) → c.number_of (m.begin txn start) ≡ txn
  -- what follows, follows on
  pub follows_self : (place : s.Place) (content : s.Content) → c.Follows place content content
  pub follows_on : (place : s.Place) (one two three : s.Content) → c.Follows place one two → c.Follows place two three → c.Follows place one three
  -- what two transactions leave together, where their changes share no object
  pub free_joined : (txn : ℕ) (mine theirs joined : s.State) → ((place : s.Place) → (s.look joined place ≡ s.look mine place) ⊎ (s.look joined place ≡ s.look theirs place))
      → c.IsFree txn mine → c.IsFree txn theirs → c.IsFree txn joined
  pub sound_joined : (snapshot mine theirs joined : s.State) (changes others : List s.Change) → c.IsSound mine → c.IsSound theirs → c.InOrder joined
      → Apart s changes others
      → ((place : s.Place) → Joins s snapshot mine theirs joined changes others place)
      → ((place : s.Place) → c.Follows place (s.look snapshot place) (s.look mine place))
      → ((place : s.Place) → c.Follows place (s.look snapshot place) (s.look theirs place))
      → c.IsSound joined

-- the object lies within one of the list, which shows all that it shows
abbrev pub LiesWithin : (s : States) → s.Object → List s.Object → Type 0
LiesWithin s o objects = (wider : s.Object) × IsAmong wider objects × ((place : s.Place) (content : s.Content) → s.shows o place content ≡ true → s.shows wider place content ≡ true)

-- the opening state is sound and no transaction's; notes only widen what was read; and the test finds the structures
pub record IsSetUp {s : States} {m : Statements s} (c : Conditions m) (setup : Setup m) : Type 0 where
  pub opens : c.IsSound setup.opening
  pub free : (txn : ℕ) → c.IsFree txn setup.opening
  pub widens : (noted read : List s.Object) (o : s.Object) → IsAmong o noted ⊎ IsAmong o read → LiesWithin s o (setup.note noted read)
  pub finds : Finds setup.test
