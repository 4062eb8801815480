-- What is kept while a statement is evaluated: the read set, each object once, and what was shown.
use Rattle.std.specs.Prelude.{◌≡◌, ℕ, List, [], Bool, true, false, Option, Some, None, Result, Ok, Err, IfOk, OnOk, nat_eq, drop, if◌then◌else◌}
use Rattle.std.specs.BTreeMap.{is_at}
use Rattle.std.specs.Map.{lookup}
use Rattle.std.specs.declared.alloc.AllocError.{AllocError}
use Rattle.rls_value.specs.{Objects.object_order, declared.value.Value.Value, declared.object.Object.Object}
use Rattle.rls_value.specs.declared.object.Object.TheVariants as o
use Rattle.rls_verdict.specs.rls_catalog.specs.State.{State}
use Rattle.rls_source.specs.Footprints.{with_reads, IsInOrder}
use Rattle.rls_source.specs.Askings.{Asking, known}
use Rattle.rls_evaluation.specs.{declared.relation.SecuredRelation.SecuredRelation, declared.execution_state.CachedRows.CachedRows, declared.execution_state.ExecutionState.ExecutionState, CachedIndexes.AreIndexed, CachedSubplans.AreCached}
use Rattle.rls_source.specs.rls_catalog.specs.rls_expr.specs.Terms.{Terms}
use Rattle.rls_evaluation.specs.{Environments.Environment, Matching.IsUnmet, Matching.LeavesOut}
use Rattle.rls_evaluation.specs.Showing.{asked_for, shown_first}

-- a call answers what is asked, unless memory ran out: what is read is added to the read set, each object once, and the
-- source stands as before
pub record Evaluates {A : Type 0} (asking : Asking A) (before after : State) (old new : List Object) (result : Result A AllocError) : Type 0 where
  pub given : IfOk result (λ a. (asking.in_state before).gives ≡ Ok a)
  pub noted : OnOk result (new ≡ with_reads old (asking.in_state before).reads)
  pub stands : after ≡ before

-- what is read of a table, by a key or all of it
abbrev pub object_for : List ℕ → Option (List Value) → Object
object_for table None = o.Rows table
object_for table (Some key) = o.Key table key

-- the rows of the object
abbrev pub asked_of : Object → Asking (List (List Value))
asked_of (o.Rows table) = asked_for table None
asked_of (o.Key table key) = asked_for table (Some key)
asked_of _ = known (Ok [])

-- it is a key
abbrev pub is_key : Object → Bool
is_key (o.Key table key) = true
is_key _ = false

-- a list that a call leaves behind, as if it gave it
abbrev pub put_in : {A E : Type 0} → List A → Result (Unit {0}) E → Result (List A) E
put_in left (Ok tt) = Ok left
put_in left (Err refused) = Err refused

-- a call gives rows that a subquery ranges over, and leaves out only such as don't meet WHERE
pub record Narrows (condition : Terms) (ranged : Asking (List (List Value))) (env : Environment) (before : State) (old new : List Object) (rows : List (List Value)) : Type 0 where
  pub all : List (List Value)
  pub given : (ranged.in_state before).gives ≡ Ok all
  pub noted : new ≡ with_reads old (ranged.in_state before).reads
  pub left : LeavesOut (IsUnmet condition env) all rows

-- the rows or the key of a table, as they are kept: what the first relation shows of it
abbrev pub shown_of : List SecuredRelation → List ℕ → Object → Asking (List (List Value))
shown_of relations user (o.Rows table) = shown_first relations user table None
shown_of relations user (o.Key table key) = shown_first relations user table (Some key)
shown_of relations user _ = known (Ok [])

-- what the relation at the place shows
abbrev pub shown_at : List SecuredRelation → List ℕ → ℕ → Object → Asking (List (List Value))
shown_at relations user place object = shown_of (drop place relations) user object

-- what was shown, where it is of the relation at the place
abbrev pub at_place : ℕ → Option CachedRows → Option (List (List Value))
at_place place (Some cached_rows) = if nat_eq cached_rows.place place then Some cached_rows.rows else None
at_place place None = None

-- what was shown of the relation at the place for the object
abbrev pub found_in : List (Object × CachedRows) → ℕ → Object → Option (List (List Value))
found_in cached_rows place object = at_place place (lookup (is_at (object_order object)) cached_rows)

-- what was shown is what the definition shows, and its reads are in the read set
pub record IsKept (relations : List SecuredRelation) (user : List ℕ) (s : State) (read_set : List Object) (place : ℕ) (object : Object) (rows : List (List Value)) : Type 0 where
  pub given : ((shown_at relations user place object).in_state s).gives ≡ Ok rows
  pub noted : with_reads read_set ((shown_at relations user place object).in_state s).reads ≡ read_set

-- all that was shown is so
pub record Holds (relations : List SecuredRelation) (user : List ℕ) (s : State) (execution : ExecutionState) : Type 0 where
  pub ordered : IsInOrder execution.read_set
  pub kept : (place : ℕ) (object : Object) (rows : List (List Value)) → found_in execution.cached_rows.entries place object ≡ Some rows → IsKept relations user s execution.read_set place object rows
  pub cached : AreCached relations user s execution.read_set execution.cached_subplans.items
  pub indexed : AreIndexed relations user s execution.cached_indexes.items
