-- States, what changes make of them, and the objects that are read.
use Rattle.std.specs.Prelude.{◌≡◌, Bool, true, ◌||◌, cond, Option, Some, None, List, [], ◌∷◌, ◌⊎◌}
use Rattle.std.specs.List.{list_any}

-- A state has a content at each place. A change overwrites one place: it names what stood there, and leaves what stands
-- there then. An object is a set of contents at places, as a row of a table or all rows of it: `shows o p c` where the
-- content c at the place p belongs to it.
pub record States : Type 1 where
  pub State : Type 0
  pub Place : Type 0
  pub Content : Type 0
  pub Object : Type 0
  pub Change : Type 0
  -- what stands at a place
  pub look : State → Place → Content
  -- the state with the change put on
  pub put : Change → State → State
  pub place_of : Change → Place
  pub before_of : Change → Content
  pub after_of : Change → Content
  pub is_same : Place → Place → Bool
  pub shows : Object → Place → Content → Bool
  -- two changes that no two concurrent transactions may make: both write one object
  pub share : Change → Change → Bool

-- x is one of the list
abbrev pub IsAmong : {X : Type 0} → X → List X → Type 0
IsAmong x [] = ⊥
IsAmong x (y ∷ ys) = (x ≡ y) ⊎ IsAmong x ys

-- the changes put on, one after another
abbrev pub put_all : (s : States) → List s.Change → s.State → s.State
put_all s [] state = state
put_all s (change ∷ more) state = put_all s more (s.put change state)

-- one of the changes overwrites the place
abbrev pub touches : (s : States) → List s.Change → s.Place → Bool
touches s changes place = list_any (λ (change : s.Change). s.is_same place (s.place_of change)) changes

-- each change names what stands at its place, as far as any object shows it
abbrev pub Fits : (s : States) → List s.Change → s.State → Type 0
Fits s [] state = Unit {0}
Fits s (change ∷ more) state =
    ((o : s.Object) → s.shows o (s.place_of change) (s.look state (s.place_of change)) ≡ s.shows o (s.place_of change) (s.before_of change))
    × Fits s more (s.put change state)

-- the object is covered by the change: this takes something out of it, or puts something in
abbrev pub covers : (s : States) → s.Object → s.Change → Bool
covers s object change = s.shows object (s.place_of change) (s.before_of change) || s.shows object (s.place_of change) (s.after_of change)

-- the object is covered by one of the changes
abbrev pub covers_any : (s : States) → s.Object → List s.Change → Bool
covers_any s object changes = list_any (covers s object) changes

-- one of the objects is covered by one of the changes
abbrev pub meet : (s : States) → List s.Object → List s.Change → Bool
meet s noted changes = list_any (λ (object : s.Object). covers_any s object changes) noted

-- what an object shows of a state at a place
abbrev pub shown : (s : States) → s.Object → s.State → s.Place → Option s.Content
shown s object state place = cond (s.shows object place (s.look state place)) (Some (s.look state place)) None

-- two states agree on an object
abbrev pub Agree : (s : States) → s.Object → s.State → s.State → Type 0
Agree s object one other = (place : s.Place) → shown s object one place ≡ shown s object other place

-- no change of the one list and no change of the other write one object
abbrev pub Apart : (s : States) → List s.Change → List s.Change → Type 0
Apart s changes others = (change other : s.Change) → IsAmong change changes → IsAmong other others → s.share change other ≡ true → ⊥
