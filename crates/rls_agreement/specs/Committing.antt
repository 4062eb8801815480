-- The committed state, made while the transactions run in another order, and how far it is made.
use Rattle.std.specs.Prelude.{◌≡◌, ℕ, zero, suc, ◌<◌, ◌≤◌, Bool, true, false, List, [], ◌∷◌, ◌++◌, map, length, get_or, take, Option, Some, None, is_some}
use Rattle.rls_value.specs.declared.object.Object.{Object}
use Rattle.rls_value.specs.declared.object.Object.TheVariants as o
use Rattle.rls_catalog.specs.declared.change.Change.{Change}
use Rattle.rls_catalog.specs.declared.change.Change.TheVariants as c
use Rattle.rls_catalog.specs.State.{State, AgreesOn}
use Rattle.rls_catalog.specs.Changed.{opening, changed_all}
use Rattle.rls_source.specs.Footprints.{footprint_of}
use Rattle.rls_agreement.specs.declared.committing.Committing.{Committing}

-- no changes at so many places
abbrev pub no_changes : ℕ → List (List Change)
no_changes zero = []
no_changes (suc n) = [] ∷ no_changes n

-- the state after so many commits with these changes
abbrev pub state_by : List (List Change) → ℕ → State
state_by deltas zero = opening
state_by deltas (suc n) = changed_all (state_by deltas n) (get_or deltas n [])

-- the object that the change writes; of a row all rows of its table
abbrev pub wide_of : Change → Object
wide_of (c.Role name def) = o.Role name
wide_of (c.Members member content) = o.Members member
wide_of (c.Table name def) = o.Table name
wide_of (c.Grants table content) = o.Grants table
wide_of (c.Policies table content) = o.Policies table
wide_of (c.Row row) = o.Rows row.table

-- those that the changes write
abbrev pub wide_of_all : List (List Change) → List Object
wide_of_all [] = []
wide_of_all (changes ∷ more) = map wide_of changes ++ wide_of_all more

-- the two states agree on all that the changes write
abbrev pub AgreeWhere : List (List Change) → State → State → Type 0
AgreeWhere deltas s other = AgreesOn s other (footprint_of (wide_of_all deltas))

-- the changes that wait, if any do
abbrev pub changes_in : Option (List Change) → List Change
changes_in (Some changes) = changes
changes_in None = []

-- The changes of all that have run are these, by place; none at the others. Those of the first commits, which have all run, are put
-- on; those of the others that have run wait.
pub record IsPutOn (deltas : List (List Change)) (placed : ℕ → Bool) (it : Committing) : Type 0 where
  pub size : length it.waiting.items ≡ length deltas
  pub within : it.next ≤ length deltas
  pub state : it.state ≡ state_by deltas it.next
  pub objects : it.objects ≡ footprint_of (wide_of_all (take it.next deltas))
  pub before : (i : ℕ) → i < it.next → placed i ≡ true
  pub behind : (i : ℕ) → it.next ≤ i → placed i ≡ is_some (get_or it.waiting.items i None)
  pub waits : (i : ℕ) → it.next ≤ i → get_or deltas i [] ≡ changes_in (get_or it.waiting.items i None)

-- the same, and the next commit hasn't run, if there is one
pub record IsCommitting (deltas : List (List Change)) (placed : ℕ → Bool) (it : Committing) : Type 0 where
  pub put_on : IsPutOn deltas placed it
  pub is_left : it.next < length deltas → placed it.next ≡ false
