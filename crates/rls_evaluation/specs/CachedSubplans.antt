-- What is kept of subqueries, by the values of the columns further out that they name.
use Rattle.std.specs.Prelude.{◌≡◌, ℕ, ◌<◌, List, Bool, true, Option, Some, None, Ok, cond, drop, length, get_or}
use Rattle.std.specs.{BTreeMap.is_at, List.All, Map.lookup, Cmp.Lexicographic.slice_cmp}
use Rattle.rls_value.specs.{declared.value.Value.Value, declared.object.Object.Object, declared.truth.Truth.Truth, Values.listed}
use Rattle.rls_source.specs.rls_catalog.specs.rls_expr.specs.{ExprTerms.query_of, Terms.Query}
use Rattle.rls_verdict.specs.rls_catalog.specs.State.{State}
use Rattle.rls_source.specs.{Footprints.with_reads, Askings.Asking}
use Rattle.rls_evaluation.specs.{declared.relation.SecuredRelation.SecuredRelation, declared.cached_subplan.CachedSubplan.CachedSubplan, declared.cached_subplan.Asks.Asks, declared.cached_subplan.Answer.Answer, declared.value_set.ValueSet.ValueSet}
use Rattle.rls_evaluation.specs.declared.cached_subplan.Answer.TheVariants.{Is, Items, First}
use Rattle.rls_evaluation.specs.{Environments.Environment, Eval.Shows, Eval.has_row, Eval.first_item, Items.any_equal, Items.items_seen, OuterColumns.is_among, OuterColumns.outer_values, OuterColumns.query_in, Showing.shows, ValueSets.IsSetOf}

-- it is what is kept of that subquery, for what is asked of it, over the relations from one on
pub record IsFor (cached_subplan : CachedSubplan) (from : ℕ) (asks : Asks) (q : Query) : Type 0 where
  pub at : cached_subplan.from ≡ from
  pub kind : cached_subplan.asks ≡ asks
  pub query : query_of cached_subplan.query.value ≡ q

-- it stands at the place
pub record FoundAt (cached_subplans : List CachedSubplan) (place from : ℕ) (asks : Asks) (q : Query) : Type 0 where
  pub below : place < length cached_subplans
  pub is : (cached_subplan : CachedSubplan) → cached_subplan ≡ get_or cached_subplans place cached_subplan → IsFor cached_subplan from asks q

-- it is what stands at the place
abbrev pub IsAtPlace : List CachedSubplan → Option ℕ → CachedSubplan → Type 0
IsAtPlace cached_subplans None cached_subplan = ⊥
IsAtPlace cached_subplans (Some place) cached_subplan = cached_subplan ≡ get_or cached_subplans place cached_subplan

-- it stands at none of the places below that one
abbrev pub NoneBelow : List CachedSubplan → ℕ → ℕ → Asks → Query → Type 0
NoneBelow cached_subplans n from asks q = (place : ℕ) → place < n → FoundAt cached_subplans place from asks q → ⊥

-- what is asked gives this, and its reads are in the read set
pub record IsKnown {A : Type 0} (asking : Asking A) (s : State) (read_set : List Object) (a : A) : Type 0 where
  pub given : (asking.in_state s).gives ≡ Ok a
  pub noted : with_reads read_set (asking.in_state s).reads ≡ read_set

-- what is asked gives the values of the set
pub record IsKnownSet (asking : Asking (List Value)) (s : State) (read_set : List Object) (set : ValueSet) : Type 0 where
  pub items : List Value
  pub known : IsKnown asking s read_set items
  pub holds : IsSetOf set items

-- the answer is what the subquery gives
abbrev pub IsAnswer : Shows → State → List Object → Query → Environment → Answer → Type 0
IsAnswer sees s read_set q env (Is is) = IsKnown (has_row q sees env) s read_set is
IsAnswer sees s read_set q env (Items set) = IsKnownSet (items_seen q sees env) s read_set set
IsAnswer sees s read_set q env (First value) = IsKnown (first_item q sees env) s read_set value

-- the answer that is kept for these values
abbrev pub answer_for : CachedSubplan → List Value → Option Answer
answer_for cached_subplan values = lookup (is_at (slice_cmp listed values)) cached_subplan.answers.entries

-- whether the value is equal to one of the items that are kept
pub record IsEqualityOf (answer : Option Answer) (x : Value) (truth : Truth) : Type 0 where
  pub set : ValueSet
  pub found : answer ≡ Some (Items set)
  pub is : (items : List Value) → IsSetOf set items → truth ≡ any_equal x items

-- the answer is what its subquery gives
abbrev pub IsAnswerOf : List SecuredRelation → State → List Object → CachedSubplan → Environment → Answer → Type 0
IsAnswerOf relations s read_set cached_subplan env answer = IsAnswer (shows (drop cached_subplan.from relations) env.user) s read_set (query_of cached_subplan.query.value) env answer

-- it names no columns further out but those that are listed, and each answer is what it gives wherever these have the values
pub record IsCached (relations : List SecuredRelation) (user : List ℕ) (s : State) (read_set : List Object) (cached_subplan : CachedSubplan) : Type 0 where
  pub named : cached_subplan.is_kept ≡ true → query_in (is_among cached_subplan.columns.items) (query_of cached_subplan.query.value) ≡ true
  pub each : (env : Environment) (answer : Answer) → env.user ≡ user → answer_for cached_subplan (outer_values cached_subplan.columns.items env) ≡ Some answer → IsAnswerOf relations s read_set cached_subplan env answer

-- one answer more is kept, for these values
pub record IsPut (old new : CachedSubplan) (values : List Value) (answer : Answer) : Type 0 where
  pub at : new.from ≡ old.from
  pub query : query_of new.query.value ≡ query_of old.query.value
  pub columns : new.columns.items ≡ old.columns.items
  pub kept : new.is_kept ≡ old.is_kept
  pub answers : (other : List Value) → answer_for new other ≡ cond (is_at (slice_cmp listed values) other) (Some answer) (answer_for old other)

-- all of them are so
abbrev pub AreCached : List SecuredRelation → List ℕ → State → List Object → List CachedSubplan → Type 0
AreCached relations user s read_set cached_subplans = All (IsCached relations user s read_set) cached_subplans

-- a call comes to the set of what is asked
pub record Comes (asking : Asking (List Value)) (before after : State) (old new : List Object) (set : ValueSet) : Type 0 where
  pub items : List Value
  pub given : (asking.in_state before).gives ≡ Ok items
  pub noted : new ≡ with_reads old (asking.in_state before).reads
  pub holds : IsSetOf set items
