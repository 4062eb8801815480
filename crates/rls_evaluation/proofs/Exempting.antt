-- A relation that row security doesn't apply to shows all that is asked for.
use Rattle.std.specs.Prelude.{◌≡◌, refl, ℕ, List, [], ◌∷◌, Bool, true, false, Option, Some, None, Result, Ok, Err, IfOk, drop}
use Rattle.std.specs.declared.alloc.AllocError.{AllocError}
use Rattle.std.proofs.Common.{ap, sym, subst, ◌∙◌}
use Rattle.std.proofs.lemmas.Bool.{true≢false}
use Rattle.rls_value.specs.{declared.object.Object.Object, declared.value.Value.Value}
use Rattle.rls_value.specs.declared.object.Object.TheVariants as o
use Rattle.rls_verdict.specs.rls_catalog.specs.State.{State}
use Rattle.rls_source.specs.{Askings.Asking, Askings.known, Readings.unread, Readings.read_then}
use Rattle.rls_evaluation.specs.{declared.relation.SecuredRelation.SecuredRelation, declared.relation.SecurityQuals.SecurityQuals, Eval.Shows, declared.relation.SecurityQuals.TheVariants.Exempt, declared.relation.SecurityQuals.TheVariants.Policies, Gathering.kept, Gathering.with_row, Holding.Evaluates, Holding.asked_of, Holding.shown_at, Holding.shown_of, Showing.asked_for, Showing.is_allowed, Showing.is_exempt, Showing.shown, Showing.shows}
use Rattle.rls_evaluation.proofs.Telling.{tells_on, tells_result, tells_unread}

-- each row is kept
kept_all : (sees : Shows) (user : List ℕ) (rows : List (List Value)) (s : State) → (kept (is_allowed Exempt sees user) rows).in_state s ≡ unread (Ok rows)
kept_all sees user [] s = refl
kept_all sees user (row ∷ rows) s = ap (λ reading. read_then (unread (Ok true)) (λ is. read_then reading (λ rest. unread (Ok (with_row row is rest))))) (kept_all sees user rows s)

-- a copy of what was told
renamed : (asking : Asking (List (List Value))) (before after : State) (old new : List Object) (rows : List (List Value)) (result : Result (List (List Value)) AllocError)
    → Evaluates asking before after old new (Ok rows) → IfOk result (λ given. given ≡ rows) → Evaluates asking before after old new result
renamed asking before after old new rows (Ok given) told same = tells_result asking before after old new rows given told same
renamed asking before after old new rows (Err refused) told same = record { given = tt; noted = tt; stands = told.stands }

with_quals : (quals : SecurityQuals) (sees : Shows) (user table : List ℕ) (key : Option (List Value)) (before after : State) (old new : List Object) (rows : List (List Value)) (result : Result (List (List Value)) AllocError)
    → is_exempt quals ≡ true → Evaluates (asked_for table key) before after old new (Ok rows) → IfOk result (λ given. given ≡ rows) → Evaluates (shown quals sees user table key) before after old new result
with_quals Exempt sees user table key before after old new rows result is told same =
    tells_on (asked_for table key) (λ found. kept (is_allowed Exempt sees user) found) before after after old new new rows result told
    (tells_unread (kept (is_allowed Exempt sees user) rows) after after new rows result (kept_all sees user rows after) refl same)
with_quals (Policies conditions) sees user table key before after old new rows result is told same = absurd (true≢false (sym is))

secured : (relation : SecuredRelation) (relations : List SecuredRelation) (user : List ℕ) (object : Object) (before after : State) (old new : List Object) (rows : List (List Value)) (result : Result (List (List Value)) AllocError)
    → is_exempt relation.quals ≡ true → Evaluates (asked_of object) before after old new (Ok rows) → IfOk result (λ given. given ≡ rows) → Evaluates (shown_of (relation ∷ relations) user object) before after old new result
secured relation relations user (o.Rows table) before after old new rows result is told same = with_quals relation.quals (shows relations user) user table None before after old new rows result is told same
secured relation relations user (o.Key table key) before after old new rows result is told same = with_quals relation.quals (shows relations user) user table (Some key) before after old new rows result is told same
secured relation relations user (o.Role role) before after old new rows result is told same = renamed (known (Ok [])) before after old new rows result told same
secured relation relations user (o.Members role) before after old new rows result is told same = renamed (known (Ok [])) before after old new rows result told same
secured relation relations user (o.Table table) before after old new rows result is told same = renamed (known (Ok [])) before after old new rows result told same
secured relation relations user (o.Grants table) before after old new rows result is told same = renamed (known (Ok [])) before after old new rows result told same
secured relation relations user (o.Policies table) before after old new rows result is told same = renamed (known (Ok [])) before after old new rows result told same
secured relation relations user (o.RowOf table id) before after old new rows result is told same = renamed (known (Ok [])) before after old new rows result told same

-- what is given, by another name
pub given_as : {A : Type 0} (result : Result A AllocError) (a b : A) → IfOk result (λ given. given ≡ a) → a ≡ b → IfOk result (λ given. given ≡ b)
given_as (Ok given) a b is same = is ∙ same
given_as (Err refused) a b is same = tt

-- the relation at the place shows what was asked for
pub tells_exempt : (all relations : List SecuredRelation) (relation : SecuredRelation) (user : List ℕ) (place : ℕ) (object : Object) (before after : State) (old new : List Object) (rows : List (List Value)) (result : Result (List (List Value)) AllocError)
    → drop place all ≡ relation ∷ relations → is_exempt relation.quals ≡ true → Evaluates (asked_of object) before after old new (Ok rows) → IfOk result (λ given. given ≡ rows) → Evaluates (shown_at all user place object) before after old new result
tells_exempt all relations relation user place object before after old new rows result here is told same =
    subst (λ fs. Evaluates (shown_of fs user object) before after old new result) (sym here) (secured relation relations user object before after old new rows result is told same)
