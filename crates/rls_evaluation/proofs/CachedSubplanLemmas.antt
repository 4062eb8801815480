-- What a subquery gave is what it gives for each row that has the same values of the columns that it names.
use Rattle.std.specs.Prelude.{◌≡◌, refl, ℕ, zero, suc, ◌+◌, ◌<◌, ◌≤◌, List, [], ◌∷◌, ◌++◌, Bool, true, false, Option, Some, None, Result, Ok, Err, IfOk, IfSome, drop, length, get_or, slice_set, cond}
use Rattle.std.specs.{BTreeMap.is_at, Map.lookup, Cmp.Lexicographic.slice_cmp, Ordering.is_eq}
use Rattle.std.specs.declared.cmp.Ordering.{Ordering}
use Rattle.std.specs.declared.cmp.Ordering.TheVariants.{Less, Equal, Greater}
use Rattle.std.proofs.Common.{arith, ap, sym, ◌∙◌, subst, append-nil}
use Rattle.std.proofs.lemmas.Bool.{true≢false}
use Rattle.std.proofs.lemmas.List.{get_or_read, get_or-set_same, length-append, length-set}
use Rattle.std.proofs.lemmas.List.Elements.{All-get_or, All-push, All-set}
use Rattle.std.proofs.Math.Seq.{get_or-append_seam}
use Rattle.std.specs.declared.alloc.AllocError.{AllocError}
use Rattle.rls_value.specs.{declared.value.Value.Value, declared.truth.Truth.Truth, declared.object.Object.Object, Values.listed, Giving.and_then}
use Rattle.rls_value.proofs.ListingLaws.{rows_same}
use Rattle.rls_source.specs.rls_catalog.specs.rls_expr.specs.{ExprTerms.query_of, Terms.Query}
use Rattle.rls_verdict.specs.rls_catalog.specs.State.{State}
use Rattle.rls_source.specs.{Footprints.with_reads, Footprints.IsInOrder, Readings.next_reads, Readings.unread, Askings.Asking, Askings.known, Askings.followed_by}
use Rattle.rls_evaluation.specs.declared.cached_subplan.Answer.TheVariants.{Is, Items, First}
use Rattle.rls_evaluation.specs.{declared.relation.SecuredRelation.SecuredRelation, declared.cached_subplan.Answer.Answer, declared.cached_subplan.Asks.Asks, declared.cached_subplan.CachedSubplan.CachedSubplan, declared.execution_state.ExecutionState.ExecutionState, declared.value_set.ValueSet.ValueSet}
use Rattle.rls_evaluation.specs.{Environments.Environment, Eval.Shows, Eval.among_items, Eval.first_item, Eval.has_row, Holding.Evaluates, Holding.Holds, Items.any_equal, Items.items_seen, OuterColumns.is_among, OuterColumns.outer_values, OuterColumns.query_in, Showing.shows, Scoping.datum_value, ValueSets.IsSetOf, declared.datum.Datum.Datum}
use Rattle.rls_evaluation.specs.CachedSubplans.{AreCached, Comes, FoundAt, IsAnswer, IsAnswerOf, IsAtPlace, IsCached, IsEqualityOf, IsFor, IsKnown, IsKnownSet, IsPut, NoneBelow, answer_for}
use Rattle.rls_evaluation.proofs.{Absorbing.noted_absorbed, OuterColumnsLemmas.IsSameAt, OuterColumnsLemmas.among_items_seen, OuterColumnsLemmas.first_same, OuterColumnsLemmas.has_row_same, OuterColumnsLemmas.same_at, OuterColumnsLemmas.seen_same, Telling.tells_as, Telling.tells_same}

-- ---- that there is none

one_below : (fact : ℕ → Type 0) (n : ℕ) → ((place : ℕ) → place < n → fact place) → fact n → (place : ℕ) → place < n + 1 → fact place
one_below fact zero before here zero below = here
one_below fact zero before here (suc place) below = absurd (omega (arith, below))
one_below fact (suc n) before here zero below = before zero (omega arith)
one_below fact (suc n) before here (suc place) below = one_below (λ p. fact (suc p)) n (λ p low. before (suc p) (omega (arith, low))) here place (omega (arith, below))

pub none_below_more : (cached_subplans : List CachedSubplan) (n from : ℕ) (asks : Asks) (q : Query) (cached_subplan : CachedSubplan) → cached_subplan ≡ get_or cached_subplans n cached_subplan → (IsFor cached_subplan from asks q → ⊥)
    → NoneBelow cached_subplans n from asks q → NoneBelow cached_subplans (n + 1) from asks q
none_below_more cached_subplans n from asks q cached_subplan is not none =
    one_below (λ place. FoundAt cached_subplans place from asks q → ⊥) n none (λ found. not (found.is cached_subplan is))

pub none_below_all : (cached_subplans : List CachedSubplan) (n place from : ℕ) (asks : Asks) (q : Query) → n ≤ place → NoneBelow cached_subplans place from asks q → NoneBelow cached_subplans n from asks q
none_below_all cached_subplans n place from asks q few none = λ other below. none other (omega (arith, below, few))

-- ---- the same in surroundings that agree

reading_known : {A : Type 0} (asking other : Asking A) (s : State) (read_set : List Object) (a : A) → asking.in_state s ≡ other.in_state s → IsKnown asking s read_set a → IsKnown other s read_set a
reading_known asking other s read_set a same was = record {
  given = ap (λ r. r.gives) (sym same) ∙ was.given;
  noted = ap (λ r. with_reads read_set r.reads) (sym same) ∙ was.noted;
}

answer_same : (sees : Shows) (s : State) (read_set : List Object) (q : Query) (named : ℕ → ℕ → Bool) (a b : Environment) (answer : Answer)
    → IsSameAt named a b → query_in named q ≡ true → IsAnswer sees s read_set q a answer → IsAnswer sees s read_set q b answer
answer_same sees s read_set q named a b (Is is) same within was = reading_known (has_row q sees a) (has_row q sees b) s read_set is (has_row_same named q sees a b s same within) was
answer_same sees s read_set q named a b (Items set) same within was = record {
  items = was.items;
  known = reading_known (items_seen q sees a) (items_seen q sees b) s read_set was.items (seen_same named q sees a b s same within) was.known;
  holds = was.holds;
}
answer_same sees s read_set q named a b (First value) same within was = reading_known (first_item q sees a) (first_item q sees b) s read_set value (first_same named q sees a b s same within) was

-- ---- a further answer

tie : (o : Ordering) → is_eq o ≡ true → o ≡ Equal
tie Less is = absurd (true≢false (sym is))
tie Equal is = refl
tie Greater is = absurd (true≢false (sym is))

abbrev some_or : Answer → Option Answer → Answer
some_or d (Some answer) = answer
some_or d None = d

put_if : (b : Bool) (sees : Shows) (s : State) (read_set : List Object) (q : Query) (named : ℕ → ℕ → Bool) (a other : Environment) (old : Option Answer) (answer found : Answer)
    → (b ≡ true → IsSameAt named a other) → query_in named q ≡ true → IsAnswer sees s read_set q a answer → (old ≡ Some found → IsAnswer sees s read_set q other found)
    → cond b (Some answer) old ≡ Some found → IsAnswer sees s read_set q other found
put_if true sees s read_set q named a other old answer found same within here was is =
    subst (IsAnswer sees s read_set q other) (ap (some_or answer) is) (answer_same sees s read_set q named a other answer (same refl) within here)
put_if false sees s read_set q named a other old answer found same within here was is = was is

-- one answer more is kept
pub cached_put : (relations : List SecuredRelation) (user : List ℕ) (s : State) (read_set : List Object) (old new : CachedSubplan) (env : Environment) (answer : Answer)
    → env.user ≡ user → old.is_kept ≡ true → IsPut old new (outer_values old.columns.items env) answer → IsAnswerOf relations s read_set old env answer
    → IsCached relations user s read_set old → IsCached relations user s read_set new
cached_put relations user s read_set old new env answer mine kept put here was = record {
  named = λ is. (λ i. query_in (is_among (put.columns i)) (put.query i)) ∙ was.named kept;
  each = λ other found user_is looked.
      let values : List Value = outer_values old.columns.items env in
      let others : List Value = outer_values old.columns.items other in
      let grown : cond (is_at (slice_cmp listed values) others) (Some answer) (answer_for old others) ≡ Some found =
      sym (put.answers others) ∙ (λ i. answer_for new (outer_values (sym put.columns i) other)) ∙ looked in
      let given : IsAnswer (shows (drop old.from relations) other.user) s read_set (query_of old.query.value) other found =
      put_if (is_at (slice_cmp listed values) others) (shows (drop old.from relations) other.user) s read_set (query_of old.query.value) (is_among old.columns.items) env other (answer_for old others) answer found
      (λ tied. same_at old.columns.items env other (mine ∙ sym user_is) (rows_same values others (tie (slice_cmp listed values others) tied)))
      (was.named kept)
      (subst (λ u. IsAnswer (shows (drop old.from relations) u) s read_set (query_of old.query.value) env answer) (mine ∙ sym user_is) here)
      (λ there. was.each other found user_is there) grown in
      subst (λ from. IsAnswer (shows (drop from relations) other.user) s read_set (query_of new.query.value) other found) (sym put.at)
      (subst (λ q. IsAnswer (shows (drop old.from relations) other.user) s read_set q other found) (sym put.query) given);
}

abbrev is_there : Option Answer → Bool
is_there (Some answer) = true
is_there None = false

none_is : {answer : Answer} → None ≡ Some answer → ⊥
none_is is = true≢false (sym (ap is_there is))

-- nothing is kept
pub cached_none : (relations : List SecuredRelation) (user : List ℕ) (s : State) (read_set : List Object) (cached_subplan : CachedSubplan)
    → (cached_subplan.is_kept ≡ true → query_in (is_among cached_subplan.columns.items) (query_of cached_subplan.query.value) ≡ true) → cached_subplan.answers.entries ≡ []
    → IsCached relations user s read_set cached_subplan
cached_none relations user s read_set cached_subplan named empty = record {
  named = named;
  each = λ env answer mine looked.
      let none : None ≡ Some answer = (λ i. lookup (is_at (slice_cmp listed (outer_values cached_subplan.columns.items env))) (sym empty i)) ∙ looked in
      absurd (none_is none);
}

-- ---- lists of what is kept

-- one of them is counted
pub counted_cached : (relations : List SecuredRelation) (user : List ℕ) (s : State) (read_set : List Object) (old : List CachedSubplan) (place : ℕ) (one new : CachedSubplan) → place < length old → one ≡ get_or old place one
    → (IsCached relations user s read_set one → IsCached relations user s read_set new) → AreCached relations user s read_set old → AreCached relations user s read_set (slice_set old place new)
counted_cached relations user s read_set old place one new below is so all =
    All-set (IsCached relations user s read_set) old place new (so (subst (IsCached relations user s read_set) (sym is) (All-get_or (IsCached relations user s read_set) old place one below all))) all

pub counted_found : (old : List CachedSubplan) (place from : ℕ) (asks : Asks) (q : Query) (one new : CachedSubplan) → FoundAt old place from asks q → one ≡ get_or old place one → (IsFor one from asks q → IsFor new from asks q)
    → FoundAt (slice_set old place new) place from asks q
counted_found old place from asks q one new found is so = record {
  below = subst (λ n. place < n) (sym (length-set old place new)) found.below;
  is = λ it same. subst (λ x. IsFor x from asks q) (sym (same ∙ get_or-set_same old place new it found.below)) (so (found.is one is));
}

-- one of them keeps an answer more
pub kept_cached : (relations : List SecuredRelation) (s : State) (read_set : List Object) (old : List CachedSubplan) (place from : ℕ) (asks : Asks) (q : Query) (env : Environment) (answer : Answer) (seen one new : CachedSubplan)
    → place < length old → seen ≡ get_or old place seen → one ≡ get_or old place one → IsFor seen from asks q
    → (IsAnswerOf relations s read_set one env answer → IsCached relations env.user s read_set one → IsCached relations env.user s read_set new)
    → IsAnswer (shows (drop from relations) env.user) s read_set q env answer → AreCached relations env.user s read_set old → AreCached relations env.user s read_set (slice_set old place new)
kept_cached relations s read_set old place from asks q env answer seen one new below was is for so given all =
    let same : seen ≡ one = get_or_read old place seen below was one ∙ sym is in
    let here : IsFor one from asks q = subst (λ x. IsFor x from asks q) same for in
    counted_cached relations env.user s read_set old place one new below is
    (so (subst (λ from. IsAnswer (shows (drop from relations) env.user) s read_set (query_of one.query.value) env answer) (sym here.at)
    (subst (λ q. IsAnswer (shows (drop from relations) env.user) s read_set q env answer) (sym here.query) given))) all

-- one more
pub pushed_found : (old : List CachedSubplan) (one : CachedSubplan) (from : ℕ) (asks : Asks) (q : Query) (new : List CachedSubplan) (place : ℕ) → new ≡ old ++ one ∷ [] → IsFor one from asks q → place ≡ length old → FoundAt new place from asks q
pushed_found old one from asks q new place more for last = subst (λ all. FoundAt all place from asks q) (sym more) (record {
  below = omega (arith, length-append old (one ∷ []), last);
  is = λ it same. subst (λ x. IsFor x from asks q) (sym (same ∙ ap (λ n. get_or (old ++ one ∷ []) n it) last ∙ get_or-append_seam old one [] it)) for;
})

pub pushed_cached : (relations : List SecuredRelation) (user : List ℕ) (s : State) (read_set : List Object) (old : List CachedSubplan) (one : CachedSubplan) (from : ℕ) (asks : Asks) (q : Query) (new : List CachedSubplan) → new ≡ old ++ one ∷ []
    → IsFor one from asks q → (one.is_kept ≡ true → query_in (is_among one.columns.items) q ≡ true) → one.answers.entries ≡ [] → AreCached relations user s read_set old → AreCached relations user s read_set new
pushed_cached relations user s read_set old one from asks q new more for named none all =
    subst (AreCached relations user s read_set) (sym more)
    (All-push (IsCached relations user s read_set) old one all
    (cached_none relations user s read_set one (λ kept. ap (query_in (is_among one.columns.items)) for.query ∙ named kept) none))

-- ---- what is found

-- what is said of the value in a `Some`
pub at_some : {A : Type 0} (told : Option A) (a : A) (fact : A → Type 0) → told ≡ Some a → IfSome told fact → fact a
at_some told a fact is holds = subst (λ it. IfSome it fact) is holds

-- the place, where it is told
pub at_that_place : (told : Option ℕ) (place : ℕ) (fact : ℕ → Type 0) → IfSome told (λ it. it ≡ place) → fact place → IfSome told fact
at_that_place (Some it) place fact same here = subst fact (sym same) here
at_that_place None place fact same here = tt

-- what stands at a place, of those that are cached
at_place : (relations : List SecuredRelation) (user : List ℕ) (s : State) (execution : ExecutionState) (place : Option ℕ) (from : ℕ) (asks : Asks) (q : Query) (cached_subplan : CachedSubplan) (env : Environment) (answer : Answer)
    → env.user ≡ user → Holds relations user s execution → IfSome place (λ place. FoundAt execution.cached_subplans.items place from asks q) → IsAtPlace execution.cached_subplans.items place cached_subplan
    → answer_for cached_subplan (outer_values cached_subplan.columns.items env) ≡ Some answer → IsAnswer (shows (drop from relations) user) s execution.read_set q env answer
at_place relations user s execution None from asks q cached_subplan env answer mine holds found there looked = absurd there
at_place relations user s execution (Some place) from asks q cached_subplan env answer mine holds found there looked =
    let was : IsCached relations user s execution.read_set cached_subplan =
    subst (IsCached relations user s execution.read_set) (sym there) (All-get_or (IsCached relations user s execution.read_set) execution.cached_subplans.items place cached_subplan found.below holds.cached) in
    let for : IsFor cached_subplan from asks q = found.is cached_subplan there in
    subst (λ u. IsAnswer (shows (drop from relations) u) s execution.read_set q env answer) mine
    (subst (λ from. IsAnswer (shows (drop from relations) env.user) s execution.read_set q env answer) for.at
    (subst (λ q. IsAnswer (shows (drop cached_subplan.from relations) env.user) s execution.read_set q env answer) for.query (was.each env answer mine looked)))

-- EXISTS of what is found
pub truth_known : (relations : List SecuredRelation) (user : List ℕ) (s : State) (execution : ExecutionState) (place : Option ℕ) (from : ℕ) (asks : Asks) (q : Query) (cached_subplan : CachedSubplan) (env : Environment) (is : Bool)
    → env.user ≡ user → Holds relations user s execution → IfSome place (λ place. FoundAt execution.cached_subplans.items place from asks q) → IsAtPlace execution.cached_subplans.items place cached_subplan
    → answer_for cached_subplan (outer_values cached_subplan.columns.items env) ≡ Some (Is is) → IsKnown (has_row q (shows (drop from relations) user) env) s execution.read_set is
truth_known relations user s execution place from asks q cached_subplan env is mine holds found there looked =
    at_place relations user s execution place from asks q cached_subplan env (Is is) mine holds found there looked

-- a scalar subquery of what is found
pub first_known : (relations : List SecuredRelation) (user : List ℕ) (s : State) (execution : ExecutionState) (place : Option ℕ) (from : ℕ) (asks : Asks) (q : Query) (cached_subplan : CachedSubplan) (env : Environment) (value : Value)
    → env.user ≡ user → Holds relations user s execution → IfSome place (λ place. FoundAt execution.cached_subplans.items place from asks q) → IsAtPlace execution.cached_subplans.items place cached_subplan
    → answer_for cached_subplan (outer_values cached_subplan.columns.items env) ≡ Some (First value) → IsKnown (first_item q (shows (drop from relations) user) env) s execution.read_set value
first_known relations user s execution place from asks q cached_subplan env value mine holds found there looked =
    at_place relations user s execution place from asks q cached_subplan env (First value) mine holds found there looked

made_known : {A B : Type 0} (asking : Asking A) (s : State) (read_set : List Object) (f : A → B) (a : A) (b : B) → IsKnown asking s read_set a → b ≡ f a → IsKnown (followed_by asking (λ a. known (Ok (f a)))) s read_set b
made_known asking s read_set f a b was is = record {
  given = ap (λ r. and_then r (λ a. Ok (f a))) was.given ∙ ap Ok (sym is);
  noted = ap (λ r. with_reads read_set ((asking.in_state s).reads ++ next_reads r (λ a. unread (Ok (f a))))) was.given
      ∙ ap (with_reads read_set) (append-nil (asking.in_state s).reads)
      ∙ was.noted;
}

-- IN of what is found
pub equality_known : (relations : List SecuredRelation) (user : List ℕ) (s : State) (execution : ExecutionState) (place : Option ℕ) (from : ℕ) (asks : Asks) (q : Query) (cached_subplan : CachedSubplan) (env : Environment) (x : Value) (truth : Truth)
    → env.user ≡ user → Holds relations user s execution → IfSome place (λ place. FoundAt execution.cached_subplans.items place from asks q) → IsAtPlace execution.cached_subplans.items place cached_subplan
    → IsEqualityOf (answer_for cached_subplan (outer_values cached_subplan.columns.items env)) x truth → IsKnown (among_items x q (shows (drop from relations) user) env) s execution.read_set truth
equality_known relations user s execution place from asks q cached_subplan env x truth mine holds found there equality =
    let sees : Shows = shows (drop from relations) user in
    let were : IsKnownSet (items_seen q sees env) s execution.read_set equality.set = at_place relations user s execution place from asks q cached_subplan env (Items equality.set) mine holds found there equality.found in
    reading_known (followed_by (items_seen q sees env) (λ items. known (Ok (any_equal x items)))) (among_items x q sees env) s execution.read_set truth (sym (among_items_seen x q sees env s))
    (made_known (items_seen q sees env) s execution.read_set (any_equal x) were.items truth were.known (equality.is were.items were.holds))

pub truth_told : (result : Result (Option Bool) AllocError) (place : Option ℕ) (execution : ExecutionState) (cached_subplan : CachedSubplan) (env : Environment) → IsAtPlace execution.cached_subplans.items place cached_subplan
    → IfOk result (λ known. IfSome known (λ is. answer_for cached_subplan (outer_values cached_subplan.columns.items env) ≡ Some (Is is)))
    → IfOk result (λ known. (relations : List SecuredRelation) (s : State) (from : ℕ) (asks : Asks) (q : Query) → Holds relations env.user s execution → IfSome place (λ place. FoundAt execution.cached_subplans.items place from asks q)
    → IfSome known (λ is. IsKnown (has_row q (shows (drop from relations) env.user) env) s execution.read_set is))
truth_told (Ok (Some is)) place execution cached_subplan env there looked = λ relations s from asks q holds found. truth_known relations env.user s execution place from asks q cached_subplan env is refl holds found there looked
truth_told (Ok None) place execution cached_subplan env there looked = λ relations s from asks q holds found. tt
truth_told (Err refused) place execution cached_subplan env there looked = tt

pub equality_told : (result : Result (Option Truth) AllocError) (place : Option ℕ) (execution : ExecutionState) (cached_subplan : CachedSubplan) (env : Environment) (x : Value) → IsAtPlace execution.cached_subplans.items place cached_subplan
    → IfOk result (λ known. IfSome known (λ truth. IsEqualityOf (answer_for cached_subplan (outer_values cached_subplan.columns.items env)) x truth))
    → IfOk result (λ known. (relations : List SecuredRelation) (s : State) (from : ℕ) (asks : Asks) (q : Query) → Holds relations env.user s execution → IfSome place (λ place. FoundAt execution.cached_subplans.items place from asks q)
    → IfSome known (λ truth. IsKnown (among_items x q (shows (drop from relations) env.user) env) s execution.read_set truth))
equality_told (Ok (Some truth)) place execution cached_subplan env x there looked = λ relations s from asks q holds found. equality_known relations env.user s execution place from asks q cached_subplan env x truth refl holds found there looked
equality_told (Ok None) place execution cached_subplan env x there looked = λ relations s from asks q holds found. tt
equality_told (Err refused) place execution cached_subplan env x there looked = tt

pub first_told : (result : Result (Option Datum) AllocError) (place : Option ℕ) (execution : ExecutionState) (cached_subplan : CachedSubplan) (env : Environment) → IsAtPlace execution.cached_subplans.items place cached_subplan
    → IfOk result (λ known. IfSome known (λ item. answer_for cached_subplan (outer_values cached_subplan.columns.items env) ≡ Some (First (datum_value item))))
    → IfOk result (λ known. (relations : List SecuredRelation) (s : State) (from : ℕ) (asks : Asks) (q : Query) → Holds relations env.user s execution → IfSome place (λ place. FoundAt execution.cached_subplans.items place from asks q)
    → IfSome known (λ item. IsKnown (first_item q (shows (drop from relations) env.user) env) s execution.read_set (datum_value item)))
first_told (Ok (Some item)) place execution cached_subplan env there looked = λ relations s from asks q holds found. first_known relations env.user s execution place from asks q cached_subplan env (datum_value item) refl holds found there looked
first_told (Ok None) place execution cached_subplan env there looked = λ relations s from asks q holds found. tt
first_told (Err refused) place execution cached_subplan env there looked = tt

-- ---- what was told is known from then on

pub known_told : {A : Type 0} (asking : Asking A) (before after : State) (old new : List Object) (a : A) → Evaluates asking before after old new (Ok a) → IsInOrder new → IsKnown asking after new a
known_told asking before after old new a told ordered =
    let reads : List Object = (asking.in_state before).reads in
    let noted : with_reads new reads ≡ new = ap (λ n. with_reads n reads) told.noted ∙ noted_absorbed old reads (subst IsInOrder told.noted ordered) ∙ sym told.noted in
    record {
      given = subst (λ s. (asking.in_state s).gives ≡ Ok a) (sym told.stands) told.given;
      noted = subst (λ s. with_reads new (asking.in_state s).reads ≡ new) (sym told.stands) noted;
    }

pub items_told : (asking : Asking (List Value)) (before after : State) (old new : List Object) (set : ValueSet) → after ≡ before → (comes : Comes asking before after old new set) → Evaluates asking before after old new (Ok comes.items)
items_told asking before after old new set same comes = record { given = comes.given; noted = comes.noted; stands = same }

pub set_told : (asking : Asking (List Value)) (before after : State) (old new : List Object) (set : ValueSet) → after ≡ before → Comes asking before after old new set → IsInOrder new → IsKnownSet asking after new set
set_told asking before after old new set same comes ordered = record {
  items = comes.items;
  known = known_told asking before after old new comes.items (items_told asking before after old new set same comes) ordered;
  holds = comes.holds;
}

-- ---- what is made of it

-- under other names of the read sets
pub told_between : {A : Type 0} (asking : Asking A) (before after : State) (first old new last : List Object) (result : Result A AllocError) → old ≡ first → last ≡ new → Evaluates asking before after old new result → Evaluates asking before after first last result
told_between asking before after first old new last result from to told =
    subst (λ n. Evaluates asking before after n last result) from (subst (λ n. Evaluates asking before after old n result) (sym to) told)

-- what is known adds nothing
pub tells_known_again : {A : Type 0} (asking : Asking A) (s : State) (first read_set : List Object) (a : A) → read_set ≡ first → IsKnown asking s read_set a → Evaluates asking s s first read_set (Ok a)
tells_known_again asking s first read_set a from was = record { given = was.given; noted = sym was.noted ∙ (λ i. with_reads (from i) (asking.in_state s).reads); stands = refl }

-- IN of a set
pub within_told : (x : Value) (q : Query) (sees : Shows) (env : Environment) (before after : State) (old new : List Object) (set : ValueSet) (truth : Truth)
    → after ≡ before → Comes (items_seen q sees env) before after old new set → ((items : List Value) → IsSetOf set items → truth ≡ any_equal x items)
    → Evaluates (among_items x q sees env) before after old new (Ok truth)
within_told x q sees env before after old new set truth same comes means =
    tells_same (among_items x q sees env) (followed_by (items_seen q sees env) (λ items. known (Ok (any_equal x items)))) before after old new (Ok truth) (among_items_seen x q sees env before)
    (tells_as (items_seen q sees env) (any_equal x) before after old new comes.items truth
    (items_told (items_seen q sees env) before after old new set same comes) (means comes.items comes.holds))

-- the set of what was told
pub comes_of : (asking : Asking (List Value)) (before after : State) (old new : List Object) (values : List Value) (result : Result ValueSet AllocError)
    → Evaluates asking before after old new (Ok values) → IfOk result (λ set. IsSetOf set values) → IfOk result (λ set. Comes asking before after old new set)
comes_of asking before after old new values (Ok set) told holds = record { items = values; given = told.given; noted = told.noted; holds = holds }
comes_of asking before after old new values (Err refused) told holds = tt
