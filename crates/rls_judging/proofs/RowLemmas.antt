-- What is told of rows, one after another.
use Rattle.std.specs.{declared.alloc.AllocError.AllocError}
use Rattle.std.specs.Prelude.{◌≡◌, refl, ℕ, List, [], ◌∷◌, ◌++◌, Bool, true, false, ◌&&◌, Result, Ok, Err, OnOk, map, drop, length, get_or, ◌<◌, ◌≤◌, ◌+◌}
use Rattle.std.proofs.Common.{ap, arith, sym, ◌∙◌, subst, append-nil, append_assoc}
use Rattle.std.proofs.lemmas.Bool.{true≢false}
use Rattle.rls_value.specs.{declared.refusal.Refusal.Refusal, declared.row.RowId.RowId, declared.object.Object.Object, declared.value.Value.Value, Giving.and_then}
use Rattle.rls_guard.specs.rls_catalog.specs.rls_expr.specs.Terms.{Terms}
use Rattle.rls_guard.specs.rls_catalog.specs.{State.State, declared.stored.Stored.Stored, declared.verdict.Verdict.Verdict}
use Rattle.rls_evaluation.specs.rls_source.specs.{Footprints.with_reads, Footprints.IsInOrder, Readings.unread, Readings.next_reads, Askings.Asking, Askings.known, Askings.followed_by}
use Rattle.rls_evaluation.specs.{declared.relation.SecuredRelation.SecuredRelation, declared.relation.SecurityQuals.SecurityQuals, declared.cached_verdicts.CachedVerdicts.CachedVerdicts, declared.execution_state.ExecutionState.ExecutionState}
use Rattle.rls_evaluation.specs.{CachedVerdicts.AreVerdicts, Eval.Shows, Showing.allows, Showing.verdict_on, Gathering.gathered, Holding.Evaluates, Holding.Holds}
use Rattle.rls_evaluation.proofs.Telling.{Leads, turn, tells_then, tells_map, tells_known, drop_at}
use Rattle.rls_evaluation.proofs.Absorbing.{noted_absorbed}
use Rattle.rls_evaluation.proofs.CachedVerdictLemmas.{verdicts_grown}
use Rattle.rls_guard.specs.{declared.quals.RowCheck.RowCheck, declared.reply.Decision.Decision}
use Rattle.rls_judging.specs.{Alike.decided_by, Judging.decision_by, Judging.decisions_on, Judging.are_allowed, Judging.qualifies_if, Judging.judged_old, Judging.row_if_qualifying, Judging.with_judged, Handed.beside, Handed.allowing, Handed.behind}

-- ---- what is told of a call, of which more is made

abbrev is_given : {A : Type 0} → Result A Refusal → Bool
is_given (Ok a) = true
is_given (Err refusal) = false

abbrev given_or : {A : Type 0} → A → Result A Refusal → A
given_or d (Ok a) = a
given_or d (Err refusal) = d

given_before : {A B : Type 0} (given : Result A Refusal) (f : A → B) (b : B) → and_then given (λ a. Ok (f a)) ≡ Ok b → (a : A) × ((given ≡ Ok a) × (f a ≡ b))
given_before (Ok a) f b is = (a, (refl, ap (given_or b) is))
given_before (Err refusal) f b is = absurd (true≢false (sym (ap is_given is)))

none_next : {A B : Type 0} (r : Result A Refusal) (f : A → B) → next_reads r (λ a. unread (Ok (f a))) ≡ []
none_next (Ok a) f = refl
none_next (Err refusal) f = refl

-- what was told before something was made of it
pub told_before : {A B : Type 0} (first : Asking A) (f : A → B) (before after : State) (old new : List Object) (b : B)
    → Evaluates (followed_by first (λ a. known (Ok (f a)))) before after old new (Ok b) → (a : A) × (Evaluates first before after old new (Ok a) × (f a ≡ b))
told_before first f before after old new b told =
    let parts = given_before (first.in_state before).gives f b told.given in (
      parts.0,
      (
        record {
          given = parts.1.0;
          noted = told.noted ∙ ap (λ more. with_reads old ((first.in_state before).reads ++ more)) (none_next (first.in_state before).gives f) ∙ ap (with_reads old) (append-nil (first.in_state before).reads);
          stands = told.stands;
        },
        parts.1.1,
      ),
    )

-- ---- one row

-- the decisions on a row, and then whether it qualifies
pub old_told : (row_checks : List RowCheck) (condition : Terms) (sees : Shows) (user : List ℕ) (stored : Stored) (decisions left : List Decision) (allowed : Bool)
    (before mid after : State) (old between new : List Object) (result : Result Bool AllocError)
    → Evaluates (followed_by (decisions_on row_checks sees user stored.id stored.row) (λ said. known (Ok (allowing decisions said)))) before mid old between (Ok (left, allowed))
    → Evaluates (qualifies_if allowed condition sees user stored.row) mid after between new result
    → Evaluates (followed_by (judged_old row_checks condition sees user stored) (λ judged. known (Ok (behind decisions judged)))) before after old new (beside left result)
old_told row_checks condition sees user stored decisions left allowed before mid after old between new (Ok is) said qualifying_row =
    let parts = told_before (decisions_on row_checks sees user stored.id stored.row) (allowing decisions) before mid old between (left, allowed) said in
    let judged : Evaluates (judged_old row_checks condition sees user stored) before after old new (Ok (parts.0, is)) =
    tells_then (decisions_on row_checks sees user stored.id stored.row) (λ decisions. followed_by (qualifies_if (are_allowed decisions) condition sees user stored.row) (λ is. known (Ok (decisions, is)))) before mid after old between new parts.0 (parts.0, is)
    parts.1.0
    (tells_map (qualifies_if (are_allowed parts.0) condition sees user stored.row) (λ is. (parts.0, is)) mid after between new is
    (subst (λ b. Evaluates (qualifies_if b condition sees user stored.row) mid after between new (Ok is)) (sym (ap (λ pair. pair.1) parts.1.1)) qualifying_row)) in
    subst (λ left. Evaluates (followed_by (judged_old row_checks condition sees user stored) (λ judged. known (Ok (behind decisions judged)))) before after old new (Ok (left, is))) (ap (λ pair. pair.0) parts.1.1)
    (tells_map (judged_old row_checks condition sees user stored) (behind decisions) before after old new (parts.0, is) judged)
old_told row_checks condition sees user stored decisions left allowed before mid after old between new (Err refused) said qualifying_row = record { given = tt; noted = tt; stands = qualifying_row.stands ∙ said.stands }

-- ---- two row checks by the same quals

twice : (b : Bool) → (b && (b && true)) ≡ b
twice true = refl
twice false = refl

-- what was told is told again, and nothing more is read
told_again : {A : Type 0} (asking : Asking A) (before after : State) (old new : List Object) (a : A) → IsInOrder new → Evaluates asking before after old new (Ok a) → Evaluates asking after after new new (Ok a)
told_again asking before after old new a ordered told =
    let reads : List Object = (asking.in_state before).reads in
    let absorbed : with_reads new reads ≡ new = subst (λ n. with_reads n reads ≡ n) (sym told.noted) (noted_absorbed old reads (subst IsInOrder told.noted ordered)) in
    record {
      given = subst (λ s. (asking.in_state s).gives ≡ Ok a) (sym told.stands) told.given;
      noted = subst (λ s. new ≡ with_reads new (asking.in_state s).reads) (sym told.stands) (sym absorbed);
      stands = refl;
    }

-- one verdict makes the decisions of both
pub both_told : (first second : RowCheck) (sees : Shows) (user : List ℕ) (id : RowId) (row : List Value) (before after : State) (old new : List Object) (verdict : Verdict)
    → second.quals ≡ first.quals → IsInOrder new → Evaluates (verdict_on first.quals sees user row) before after old new (Ok verdict)
    → Evaluates (decisions_on (first ∷ second ∷ []) sees user id row) before after old new (Ok (decided_by id verdict first ∷ decided_by id verdict second ∷ []))
both_told first second sees user id row before after old new verdict alike ordered told =
    let by = decision_by sees user id row in
    let again : Evaluates (verdict_on second.quals sees user row) after after new new (Ok verdict) =
    subst (λ quals. Evaluates (verdict_on quals sees user row) after after new new (Ok verdict)) (sym alike) (told_again (verdict_on first.quals sees user row) before after old new verdict ordered told) in
    let last : Evaluates (decisions_on (second ∷ []) sees user id row) after after new new (Ok (decided_by id verdict second ∷ [])) =
    tells_then (by second) (λ decision. followed_by (known (Ok [])) (λ rest. known (Ok (decision ∷ rest)))) after after after new new new (decided_by id verdict second) (decided_by id verdict second ∷ [])
    (tells_map (verdict_on second.quals sees user row) (λ verdict. decided_by id verdict second) after after new new verdict again)
    (tells_map (known (Ok [])) (λ rest. decided_by id verdict second ∷ rest) after after new new [] (tells_known after after new [] refl)) in
    tells_then (by first) (λ decision. followed_by (decisions_on (second ∷ []) sees user id row) (λ rest. known (Ok (decision ∷ rest)))) before after after old new new (decided_by id verdict first) (decided_by id verdict first ∷ decided_by id verdict second ∷ [])
    (tells_map (verdict_on first.quals sees user row) (λ verdict. decided_by id verdict first) before after old new verdict told)
    (tells_map (decisions_on (second ∷ []) sees user id row) (λ rest. decided_by id verdict first ∷ rest) after after new new (decided_by id verdict second ∷ []) last)

-- one verdict makes the one decision
pub one_told : (only : RowCheck) (sees : Shows) (user : List ℕ) (id : RowId) (row : List Value) (before after : State) (old new : List Object) (verdict : Verdict)
    → Evaluates (verdict_on only.quals sees user row) before after old new (Ok verdict)
    → Evaluates (decisions_on (only ∷ []) sees user id row) before after old new (Ok (decided_by id verdict only ∷ []))
one_told only sees user id row before after old new verdict told =
    tells_then (decision_by sees user id row only) (λ decision. followed_by (known (Ok [])) (λ rest. known (Ok (decision ∷ rest)))) before after after old new new (decided_by id verdict only) (decided_by id verdict only ∷ [])
    (tells_map (verdict_on only.quals sees user row) (λ verdict. decided_by id verdict only) before after old new verdict told)
    (tells_map (known (Ok [])) (λ rest. decided_by id verdict only ∷ rest) after after new new [] (tells_known after after new [] refl))

once : (b : Bool) → (b && true) ≡ b
once true = refl
once false = refl

-- what it says stands behind the others
pub one_put : (id : RowId) (verdict : Verdict) (only : RowCheck) (decisions left : List Decision) (allowed : Bool) → left ≡ decisions ++ decided_by id verdict only ∷ [] → allowed ≡ allows verdict
    → ◌≡◌ {A = List Decision × Bool} (left, allowed) (allowing decisions (decided_by id verdict only ∷ []))
one_put id verdict only decisions left allowed put is i = (put i, (is ∙ sym (once (allows verdict))) i)

-- a list of one
pub one_item : {A : Type 0} (xs : List A) (only : A) → 1 ≤ length xs → length xs < 2 → only ≡ get_or xs 0 only → xs ≡ only ∷ []
one_item [] only least most is = absurd (omega (arith, least))
one_item (x ∷ []) only least most is = λ i. sym is i ∷ []
one_item (x ∷ y ∷ xs) only least most is = absurd (omega (arith, most))

-- a list of two
pub two_items : {A : Type 0} (xs : List A) (first second : A) → 2 ≤ length xs → length xs < 3 → first ≡ get_or xs 0 first → second ≡ get_or xs 1 second → xs ≡ first ∷ second ∷ []
two_items [] first second least most one other = absurd (omega (arith, least))
two_items (x ∷ []) first second least most one other = absurd (omega (arith, least))
two_items (x ∷ y ∷ []) first second least most one other = λ i. sym one i ∷ sym other i ∷ []
two_items (x ∷ y ∷ z ∷ xs) first second least most one other = absurd (omega (arith, most))

-- what both say stands behind the others, and both allow the row or neither does
pub both_put : (id : RowId) (verdict : Verdict) (first second : RowCheck) (decisions left : List Decision) (allowed : Bool)
    → left ≡ decisions ++ decided_by id verdict first ∷ decided_by id verdict second ∷ [] → allowed ≡ allows verdict
    → ◌≡◌ {A = List Decision × Bool} (left, allowed) (allowing decisions (decided_by id verdict first ∷ decided_by id verdict second ∷ []))
both_put id verdict first second decisions left allowed put is i = (put i, (is ∙ sym (twice (allows verdict))) i)

-- ---- loops

and_again : (a b c : Bool) → ((a && b) && c) ≡ (a && (b && c))
and_again true b c = refl
and_again false b c = refl

-- one decision more
pub decided : (decisions next rest : List Decision) (decision : Decision) (allowed both : Bool) → next ≡ decisions ++ decision ∷ [] → both ≡ (allowed && allows decision.verdict)
    → ◌≡◌ {A = List Decision × Bool} (next ++ rest, both && are_allowed rest) (decisions ++ decision ∷ rest, allowed && are_allowed (decision ∷ rest))
decided decisions next rest decision allowed both pushed is i = (
  (ap (λ n. n ++ rest) pushed ∙ append_assoc decisions (decision ∷ []) rest) i,
  (ap (λ b. b && are_allowed rest) is ∙ and_again allowed (allows decision.verdict) (are_allowed rest)) i,
)

-- one scanned row more
pub found_more : (decisions left : List Decision) (qualifying_rows now_qualifies : List Stored) (stored : Stored) (judged : List Decision × Bool) (is : Bool) (rest : List Decision × List Stored)
    → behind decisions judged ≡ (left, is) → now_qualifies ≡ qualifying_rows ++ row_if_qualifying is stored → ◌≡◌ {A = List Decision × List Stored} (left ++ rest.0, now_qualifies ++ rest.1) (decisions ++ (with_judged stored judged rest).0, qualifying_rows ++ (with_judged stored judged rest).1)
found_more decisions left qualifying_rows now_qualifies stored judged is rest same grown i = (
  (ap (λ pair. pair.0 ++ rest.0) (sym same) ∙ append_assoc decisions judged.0 rest.0) i,
  (ap (λ n. n ++ rest.1) grown ∙ ap (λ pair. (qualifying_rows ++ row_if_qualifying pair.1 stored) ++ rest.1) (sym same) ∙ append_assoc qualifying_rows (row_if_qualifying judged.1 stored) rest.1) i,
)

-- the decisions on one new row more
pub said_more : (decisions left said : List Decision) (allowed : Bool) (rest : List Decision) → allowing decisions said ≡ (left, allowed) → left ++ rest ≡ decisions ++ (said ++ rest)
said_more decisions left said allowed rest same = ap (λ pair. pair.0 ++ rest) (sym same) ∙ append_assoc decisions said rest

-- a turn over a list, each element of which stands for another
pub mapped_turn : {X A B R V : Type 0} (whole : Asking V) (join next : R → V) (put : A → B → R → R) (none : R) (ask : A → Asking B) (f : X → A) (xs : List X) (i : ℕ) (x : X) (y : B)
    (now mid after : State) (old read_set new : List Object)
    → i < length xs → x ≡ get_or xs i x → ((rest : R) → next rest ≡ join (put (f x) y rest)) → mid ≡ now
    → Leads whole (gathered put none ask (map f (drop i xs))) join now old read_set → Evaluates (ask (f x)) mid after read_set new (Ok y)
    → Leads whole (gathered put none ask (map f (drop (i + 1) xs))) next now old new
mapped_turn whole join next put none ask f xs i x y now mid after old read_set new below is step same leads told =
    turn whole join next (put (f x)) (gathered put none ask (map f (drop i xs))) (ask (f x)) (gathered put none ask (map f (drop (i + 1) xs))) now mid after old read_set new y
    (ap (λ ys. gathered put none ask (map f ys)) (drop_at xs i x below is)) step same leads told

-- one element more of a list
pub one_more : {A : Type 0} (xs next rest : List A) (x : A) → next ≡ xs ++ x ∷ [] → next ++ rest ≡ xs ++ x ∷ rest
one_more xs next rest x added = ap (λ n. n ++ rest) added ∙ append_assoc xs (x ∷ []) rest

-- what is kept of quals stays so under a call that leaves a list behind
pub verdicts_beside : {A B : Type 0} (quals : SecurityQuals) (relations : List SecuredRelation) (user : List ℕ) (asking : Asking (A × B)) (before after : State) (old : List Object) (execution : ExecutionState) (left : A) (result : Result B AllocError) (cached now : CachedVerdicts)
    → now.is_kept ≡ cached.is_kept → now.columns.items ≡ cached.columns.items → now.verdicts.entries ≡ cached.verdicts.entries → Evaluates asking before after old execution.read_set (beside left result) → OnOk result (Holds relations user after execution)
    → AreVerdicts quals relations user before old cached → OnOk result (AreVerdicts quals relations user after execution.read_set now)
verdicts_beside quals relations user asking before after old execution left (Ok b) cached now kept columns entries told holds was = verdicts_grown quals relations user asking before after old execution.read_set (left, b) cached now kept columns entries told holds.ordered was
verdicts_beside quals relations user asking before after old execution left (Err refused) cached now kept columns entries told holds was = tt
