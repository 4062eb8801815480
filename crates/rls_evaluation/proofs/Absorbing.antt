-- What is in the read set already adds nothing, and stays in it.
use Rattle.std.specs.Prelude.{◌≡◌, refl, ℕ, List, [], ◌∷◌, Bool, true, false, ◌||◌, Option, Some, None, Ok, drop, nat_eq, if◌then◌else◌, cond}
use Rattle.std.specs.{List.AllByRecursion, List.Sorted.IsStrictlySortedBy, declared.cmp.Ordering.Ordering, BTreeMap.is_at, Map.lookup}
use Rattle.std.specs.Ordering.{is_eq, match_ordering}
use Rattle.std.specs.declared.cmp.Ordering.TheVariants.{Less, Equal, Greater}
use Rattle.std.proofs.Common.{ap, sym, ◌∙◌, subst, arith}
use Rattle.std.proofs.lemmas.Bool.{true≢false, or_left, or_right}
use Rattle.std.proofs.lemmas.List.Elements.{All-nil, All-weaker}
use Rattle.rls_value.specs.{declared.value.Value.Value, declared.object.Object.Object, Objects.object_order, ObjectOrder.objects_total}
use Rattle.rls_verdict.specs.rls_catalog.specs.State.{State}
use Rattle.rls_source.specs.{Askings.Asking, Footprints.with_object, Footprints.with_reads, Footprints.is_object, Footprints.is_among, Footprints.IsInOrder, FootprintLaws.is_object_same, FootprintLaws.among_with_object, FootprintLaws.among_with_reads}
use Rattle.rls_source.proofs.FootprintOrderLaws.{with_object_in_order}
use Rattle.rls_evaluation.specs.declared.cached_subplan.Answer.TheVariants.{Is, Items, First}
use Rattle.rls_evaluation.specs.{declared.relation.SecuredRelation.SecuredRelation, declared.cached_subplan.Answer.Answer, declared.cached_subplan.CachedSubplan.CachedSubplan, declared.execution_state.CachedRows.CachedRows, declared.execution_state.ExecutionState.ExecutionState, CachedIndexes.AreIndexed, CachedIndexes.IsIndexed, CachedSubplans.IsAnswer, CachedSubplans.IsCached, CachedSubplans.IsKnown, CachedSubplans.AreCached, Environments.Environment, Eval.Shows, Eval.first_item, Eval.has_row, Items.items_seen, Showing.shows, Holding.IsKept, Holding.Holds, Holding.Evaluates, Holding.at_place, Holding.found_in, Holding.shown_at}
use Rattle.rls_source.specs.rls_catalog.specs.rls_expr.specs.{ExprTerms.query_of, Terms.Query}

below_none : (x y : Object) (objects : List Object) → object_order x y ≡ Less → AllByRecursion (λ z. object_order y z ≡ Less) objects → is_among objects x ≡ false
below_none x y [] is all = refl
below_none x y (z ∷ objects) is all =
    ap (λ order. is_eq order || is_among objects x) (objects_total.trans x y z is all.0) ∙ below_none x y objects is all.1

absorbed_if : (order : Ordering) (x y : Object) (objects more : List Object) → object_order x y ≡ order → AllByRecursion (λ z. object_order y z ≡ Less) objects
    → (is_eq order || is_among objects x) ≡ true → (is_among objects x ≡ true → more ≡ objects)
    → match_ordering order (x ∷ y ∷ objects) (y ∷ objects) (y ∷ more) ≡ y ∷ objects
absorbed_if Less x y objects more is all among further = absurd (true≢false (sym among ∙ below_none x y objects is all))
absorbed_if Equal x y objects more is all among further = refl
absorbed_if Greater x y objects more is all among further = ap (λ rest. y ∷ rest) (further among)

-- an object that is among them is in its place
pub object_absorbed : (read_set : List Object) (object : Object) → IsInOrder read_set → is_among read_set object ≡ true → with_object read_set object ≡ read_set
unfolding IsStrictlySortedBy
object_absorbed [] object ordered among = absurd (true≢false (sym among))
object_absorbed (x ∷ read_set) object ordered among = absorbed_if (object_order object x) object x read_set (with_object read_set object) refl ordered.0 among (λ further. object_absorbed read_set object ordered.1 further)

-- each of the reads is in the read set
abbrev pub Within : List Object → List Object → Type 0
Within reads read_set = (object : Object) → is_among reads object ≡ true → is_among read_set object ≡ true

own : (object : Object) → is_object object object ≡ true
own object = (is_object_same object object).1 refl

pub reads_absorbed : (read_set reads : List Object) → IsInOrder read_set → Within reads read_set → with_reads read_set reads ≡ read_set
reads_absorbed read_set [] ordered within = refl
reads_absorbed read_set (read ∷ reads) ordered within =
    ap (λ more. with_reads more reads) (object_absorbed read_set read ordered (within read (or_left (is_object read read) (is_among reads read) (own read))))
    ∙ reads_absorbed read_set reads ordered (λ object among. within object (or_right (is_object object read) (is_among reads object) among))

-- what adds nothing is within
pub absorbed_within : (read_set reads : List Object) → with_reads read_set reads ≡ read_set → Within reads read_set
absorbed_within read_set reads same object among =
    ap (λ all. is_among all object) (sym same) ∙ among_with_reads read_set reads object ∙ or_left (is_among reads object) (is_among read_set object) among

-- what was just added adds nothing
pub noted_absorbed : (read_set reads : List Object) → IsInOrder (with_reads read_set reads) → with_reads (with_reads read_set reads) reads ≡ with_reads read_set reads
noted_absorbed read_set reads ordered = reads_absorbed (with_reads read_set reads) reads ordered (λ object among. among_with_reads read_set reads object ∙ or_left (is_among reads object) (is_among read_set object) among)

-- and nothing after a further note
pub still_absorbed : (read_set reads : List Object) (more : Object) → IsInOrder read_set → with_reads read_set reads ≡ read_set → with_reads (with_object read_set more) reads ≡ with_object read_set more
still_absorbed read_set reads more ordered same =
    reads_absorbed (with_object read_set more) reads (with_object_in_order read_set more ordered)
    (λ object among. among_with_object read_set more object ∙ or_right (is_object object more) (is_among read_set object) (absorbed_within read_set reads same object among))

-- ---- what was shown stays so

-- what is known
known_noted : {A : Type 0} (asking : Asking A) (s : State) (read_set : List Object) (more : Object) (a : A) → IsInOrder read_set → IsKnown asking s read_set a → IsKnown asking s (with_object read_set more) a
known_noted asking s read_set more a ordered was = record { given = was.given; noted = still_absorbed read_set (asking.in_state s).reads more ordered was.noted }

answer_noted : (sees : Shows) (s : State) (read_set : List Object) (more : Object) (q : Query) (env : Environment) (answer : Answer) → IsInOrder read_set
    → IsAnswer sees s read_set q env answer → IsAnswer sees s (with_object read_set more) q env answer
answer_noted sees s read_set more q env (Is is) ordered was = known_noted (has_row q sees env) s read_set more is ordered was
answer_noted sees s read_set more q env (Items set) ordered was = record {
  items = was.items;
  known = known_noted (items_seen q sees env) s read_set more was.items ordered was.known;
  holds = was.holds;
}
answer_noted sees s read_set more q env (First value) ordered was = known_noted (first_item q sees env) s read_set more value ordered was

-- what a subquery gave
cached_noted : (relations : List SecuredRelation) (user : List ℕ) (s : State) (read_set : List Object) (more : Object) (cached_subplan : CachedSubplan) → IsInOrder read_set
    → IsCached relations user s read_set cached_subplan → IsCached relations user s (with_object read_set more) cached_subplan
cached_noted relations user s read_set more cached_subplan ordered was = record {
  named = was.named;
  each = λ env answer mine looked.
      answer_noted (shows (drop cached_subplan.from relations) env.user) s read_set more (query_of cached_subplan.query.value) env answer ordered (was.each env answer mine looked);
}

-- the answers are the same list
subplans_same : (relations : List SecuredRelation) (user : List ℕ) (s : State) (read_set : List Object) (old new : List CachedSubplan) → new ≡ old → AreCached relations user s read_set old → AreCached relations user s read_set new
subplans_same relations user s read_set old new same cached = subst (AreCached relations user s read_set) (sym same) cached

-- the indexes are the same list, in the same state
indexes_same : (relations : List SecuredRelation) (user : List ℕ) (before after : State) (execution new : ExecutionState) → after ≡ before → new.cached_indexes.items ≡ execution.cached_indexes.items → Holds relations user before execution
    → AreIndexed relations user after new.cached_indexes.items
indexes_same relations user before after execution new same is holds =
    subst (λ s. AreIndexed relations user s new.cached_indexes.items) (sym same) (subst (AreIndexed relations user before) (sym is) holds.indexed)

-- under a further note, in the same state
pub holds_noted : (relations : List SecuredRelation) (user : List ℕ) (before after : State) (execution new : ExecutionState) (more : Object) → after ≡ before → new.read_set ≡ with_object execution.read_set more → new.cached_rows.entries ≡ execution.cached_rows.entries
    → new.cached_subplans.items ≡ execution.cached_subplans.items → new.cached_indexes.items ≡ execution.cached_indexes.items → Holds relations user before execution → Holds relations user after new
holds_noted relations user before after execution new more same grown kept cached_subplans cached_indexes holds = record {
  ordered = subst IsInOrder (sym grown) (with_object_in_order execution.read_set more holds.ordered);
  kept = λ place object rows found.
      let was : IsKept relations user before execution.read_set place object rows = holds.kept place object rows (ap (λ cached_rows. found_in cached_rows place object) (sym kept) ∙ found) in
      subst (λ s. IsKept relations user s new.read_set place object rows) (sym same)
      (subst (λ n. IsKept relations user before n place object rows) (sym grown)
      (record { given = was.given; noted = still_absorbed execution.read_set ((shown_at relations user place object).in_state before).reads more holds.ordered was.noted }));
  cached = subplans_same relations user after new.read_set execution.cached_subplans.items new.cached_subplans.items cached_subplans
      (subst (λ s. AreCached relations user s new.read_set execution.cached_subplans.items) (sym same)
      (subst (λ n. AreCached relations user before n execution.cached_subplans.items) (sym grown)
      (All-weaker (IsCached relations user before execution.read_set) (IsCached relations user before (with_object execution.read_set more))
      (λ cached_subplan was. cached_noted relations user before execution.read_set more cached_subplan holds.ordered was) execution.cached_subplans.items holds.cached)));
  indexed = indexes_same relations user before after execution new same cached_indexes holds;
}

same_place : (a b : ℕ) → nat_eq a b ≡ true → a ≡ b
same_place a b is = grind (arith, is)

abbrev rows_of : List (List Value) → Option (List (List Value)) → List (List Value)
rows_of d (Some rows) = rows
rows_of d None = d

abbrev is_there : Option (List (List Value)) → Bool
is_there (Some rows) = true
is_there None = false

place_if : (b : Bool) (relations : List SecuredRelation) (user : List ℕ) (s : State) (read_set : List Object) (at place : ℕ) (object : Object) (shown rows : List (List Value)) → nat_eq at place ≡ b
    → IsKept relations user s read_set at object shown → (if b then Some shown else None) ≡ Some rows → IsKept relations user s read_set place object rows
place_if true relations user s read_set at place object shown rows is kept found =
    subst (λ p. IsKept relations user s read_set p object rows) (same_place at place is) (subst (λ r. IsKept relations user s read_set at object r) (ap (rows_of rows) found) kept)
place_if false relations user s read_set at place object shown rows is kept found = absurd (true≢false (sym (ap is_there found)))

new_if : (b : Bool) (relations : List SecuredRelation) (user : List ℕ) (s : State) (read_set : List Object) (at place : ℕ) (key object : Object) (shown rows : List (List Value)) (old : Option CachedRows) → is_object key object ≡ b
    → IsKept relations user s read_set at key shown → (at_place place old ≡ Some rows → IsKept relations user s read_set place object rows)
    → at_place place (cond b (Some (record { place = at; rows = shown })) old) ≡ Some rows → IsKept relations user s read_set place object rows
new_if true relations user s read_set at place key object shown rows old is kept was found =
    place_if (nat_eq at place) relations user s read_set at place object shown rows refl (subst (λ o. IsKept relations user s read_set at o shown) ((is_object_same key object).0 is) kept) found
new_if false relations user s read_set at place key object shown rows old is kept was found = was found

-- with what was just shown
pub holds_shown : (relations : List SecuredRelation) (user : List ℕ) (before after : State) (old : List Object) (execution new : ExecutionState) (place : ℕ) (object : Object) (rows : List (List Value))
    → Evaluates (shown_at relations user place object) before after old execution.read_set (Ok rows) → Holds relations user after execution → new.read_set ≡ execution.read_set → new.cached_subplans.items ≡ execution.cached_subplans.items → new.cached_indexes.items ≡ execution.cached_indexes.items
    → ((other : Object) → lookup (is_at (object_order other)) new.cached_rows.entries ≡ cond (is_object object other) (Some (record { place = place; rows = rows })) (lookup (is_at (object_order other)) execution.cached_rows.entries))
    → Holds relations user after new
holds_shown relations user before after old execution new place object rows told holds same cached_subplans cached_indexes grown =
    let reads : List Object = ((shown_at relations user place object).in_state before).reads in
    let noted : with_reads execution.read_set reads ≡ execution.read_set =
    ap (λ n. with_reads n reads) told.noted ∙ noted_absorbed old reads (subst IsInOrder told.noted holds.ordered) ∙ sym told.noted in
    let here : IsKept relations user after execution.read_set place object rows = record {
      given = subst (λ s. ((shown_at relations user place object).in_state s).gives ≡ Ok rows) (sym told.stands) told.given;
      noted = subst (λ s. with_reads execution.read_set ((shown_at relations user place object).in_state s).reads ≡ execution.read_set) (sym told.stands) noted;
    } in
    record {
      ordered = subst IsInOrder (sym same) holds.ordered;
      kept = λ at other shown found. subst (λ n. IsKept relations user after n at other shown) (sym same)
          (new_if (is_object object other) relations user after execution.read_set place at object other rows shown (lookup (is_at (object_order other)) execution.cached_rows.entries) refl here (λ was. holds.kept at other shown was)
          (ap (at_place at) (sym (grown other)) ∙ found));
      cached = subplans_same relations user after new.read_set execution.cached_subplans.items new.cached_subplans.items cached_subplans
          (subst (λ n. AreCached relations user after n execution.cached_subplans.items) (sym same) holds.cached);
      indexed = indexes_same relations user after after execution new refl cached_indexes holds;
    }

none_in_order : (read_set : List Object) → read_set ≡ [] → IsInOrder read_set
unfolding IsStrictlySortedBy
none_in_order read_set none = subst IsInOrder (sym none) tt

-- where nothing was read, shown or answered
pub holds_new : (relations : List SecuredRelation) (user : List ℕ) (s : State) (execution : ExecutionState) → execution.read_set ≡ [] → execution.cached_rows.entries ≡ [] → execution.cached_subplans.items ≡ [] → execution.cached_indexes.items ≡ [] → Holds relations user s execution
holds_new relations user s execution unread unseen uncached unindexed = record {
  ordered = none_in_order execution.read_set unread;
  kept = λ place object rows found.
      let none : None ≡ Some rows = ap (λ cached_rows. found_in cached_rows place object) (sym unseen) ∙ found in
      absurd (true≢false (sym (ap is_there none)));
  cached = subplans_same relations user s execution.read_set [] execution.cached_subplans.items uncached (All-nil (IsCached relations user s execution.read_set));
  indexed = subst (AreIndexed relations user s) (sym unindexed) (All-nil (IsIndexed relations user s));
}

-- a second look adds nothing
pub tells_found : (relations : List SecuredRelation) (user : List ℕ) (s : State) (execution : ExecutionState) (place : ℕ) (object : Object) (rows : List (List Value))
    → Holds relations user s execution → found_in execution.cached_rows.entries place object ≡ Some rows → Evaluates (shown_at relations user place object) s s execution.read_set execution.read_set (Ok rows)
tells_found relations user s execution place object rows holds found =
    let kept : IsKept relations user s execution.read_set place object rows = holds.kept place object rows found in
    record { given = kept.given; noted = sym kept.noted; stands = refl }
