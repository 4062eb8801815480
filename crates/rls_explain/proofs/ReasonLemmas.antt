-- A role is exempt exactly where there is a reason, and what is told of policies is what they say.
use Rattle.std.specs.Prelude.{◌≡◌, refl, ℕ, List, [], ◌∷◌, ◌++◌, Bool, true, false, ◌&&◌, ◌||◌, cond, not, Option, Some, None, Result, Ok, Err, IfOk, filter, is_some, map, if◌then◌else◌}
use Rattle.std.specs.List.{cons_option, filter_map, flat_map, list_any}
use Rattle.std.specs.Option.{option_map_or, option_to_list}
use Rattle.std.proofs.{Common.ap, Common.sym, Common.◌∙◌, lemmas.Bool.true≢false}
use Rattle.rls_value.specs.{declared.truth.Truth.Truth, declared.value.Value.Value, declared.verb.Kind.Kind, Values.truth_in}
use Rattle.rls_expr.specs.{declared.policy.Policy.Policy, declared.table.TableDef.TableDef, Scopes.InScope, Terms.Term}
use Rattle.rls_meaning.specs.rls_guard.specs.rls_catalog.specs.{declared.verdict.Side.Side, Membership.attributes_of, Membership.has_privileges_of, State.State, State.policies_of, Verdict.expression_of, Verdict.is_asked, Verdict.is_exempt, Verdict.is_for_kind, Verdict.is_such, Verdict.is_to, Verdict.least, Verdict.names_where, Verdict.verdict_by, Verdict.verdict_of}
use Rattle.rls_meaning.specs.rls_guard.specs.rls_catalog.specs.declared.verdict.Verdict.TheVariants as v
use Rattle.rls_meaning.specs.rls_guard.specs.rls_evaluation.specs.Environments.{over}
use Rattle.rls_meaning.specs.rls_guard.specs.rls_catalog.specs.Privileges.{includes}
use Rattle.rls_meaning.specs.rls_guard.specs.declared.role_privileges.RolePrivileges.{RolePrivileges}
use Rattle.rls_meaning.specs.rls_guard.specs.RolePrivileges.{has_owner, role_privileges_in}
use Rattle.rls_meaning.specs.{Commands.Command, Evaluating.value, Resolving.resolved, Rows.shown_to, Showing.truths_in}
use Rattle.rls_explain.specs.declared.details.{Asking.Asking, Consulted.Consulted, Exemption.Exemption, Part.Part}
use Rattle.rls_explain.specs.declared.details.Asking.TheVariants as asking
use Rattle.rls_explain.specs.declared.details.Consulting.TheVariants as consulting
use Rattle.rls_explain.specs.declared.details.Exemption.TheVariants as exemption
use Rattle.rls_explain.specs.{declared.explanation.Said.Said, DetailLaws.DetailsSay, DetailLaws.ExemptByReason, DetailLaws.VerdictIsTold, DetailLaws.is_said, DetailLaws.said_among, DetailLaws.said_if, DetailLaws.said_names, DetailLaws.verdict_told, Details.consulted_by, Details.consulted_in, Details.consulting_by, Details.exemption_by, Details.exemption_of, Details.of_owner, Details.parts_at, Details.parts_by, Details.sight_of, Explaining.said_as}
use Rattle.rls_explain.proofs.Lists.{kept_map, mapped}

-- ---- exemption

reason_by : (enabled superuser bypass_rls owns forced : Bool) (off is_super skips owning : Exemption)
    → is_some (if not enabled then Some off else (if superuser then Some is_super else (if bypass_rls then Some skips else (if owns && not forced then Some owning else None))))
    ≡ (not enabled || (superuser || (bypass_rls || (owns && not forced))))
reason_by false superuser bypass_rls owns forced off is_super skips owning = refl
reason_by true true bypass_rls owns forced off is_super skips owning = refl
reason_by true false true owns forced off is_super skips owning = refl
reason_by true false false false forced off is_super skips owning = refl
reason_by true false false true true off is_super skips owning = refl
reason_by true false false true false off is_super skips owning = refl

pub exempt_by_reason : ExemptByReason
exempt_by_reason s role table =
    reason_by table.enabled (attributes_of s role).superuser (attributes_of s role).bypass_rls (has_privileges_of s role table.owner) table.forced exemption.Disabled exemption.Superuser exemption.BypassRls (of_owner role table)

-- by whose privileges the role has it is the same reason
pub reason_told : (s : State) (role : List ℕ) (table : TableDef) → exemption_by (role_privileges_in s role).attributes (has_owner (role_privileges_in s role) table) role table ≡ exemption_of s role table
unfolding role_privileges_in
reason_told s role table = refl

-- and a policy is to the same roles
pub to_told : (s : State) (role : List ℕ) (policy : Policy) → list_any (includes (role_privileges_in s role).effective_roles.superuser (role_privileges_in s role).effective_roles.names) policy.to ≡ is_to s role policy
unfolding role_privileges_in
to_told s role policy = refl

-- so there is none where none is found
pub none_told : (role_privileges : RolePrivileges) (s : State) (role : List ℕ) (table : TableDef) (found : Option Exemption) (all policies : List Consulted) → role_privileges ≡ role_privileges_in s role
    → found ≡ exemption_by role_privileges.attributes (has_owner role_privileges table) role table → found ≡ None → all ≡ policies → consulting.Policies all ≡ consulting_by (exemption_of s role table) policies
none_told role_privileges s role table found all policies same is none are =
    ap (λ it. consulting.Policies it) are
    ∙ ap (λ reason. consulting_by reason policies) (sym none ∙ is ∙ (λ i. exemption_by (same i).attributes (has_owner (same i) table) role table) ∙ reason_told s role table)

-- and a policy is consulted so
pub consulted_to : {E : Type 0} (r : Result Consulted E) (role_privileges : RolePrivileges) (s : State) (role : List ℕ) (to : Bool) (told : Term → Asking) (kind : Kind) (which : Side) (policy : Policy) → role_privileges ≡ role_privileges_in s role
    → to ≡ list_any (includes role_privileges.effective_roles.superuser role_privileges.effective_roles.names) policy.to → IfOk r (λ one. one ≡ consulted_by to told kind which policy) → IfOk r (λ one. one ≡ consulted_by (is_to s role policy) told kind which policy)
consulted_to (Ok one) role_privileges s role to told kind which policy same is consulted =
    consulted ∙ ap (λ (to : Bool). consulted_by to told kind which policy) (is ∙ (λ i. list_any (includes (same i).effective_roles.superuser (same i).effective_roles.names) policy.to) ∙ to_told s role policy)
consulted_to (Err e) role_privileges s role to told kind which policy same is consulted = tt

-- ---- what policies say

-- what a consulted policy says, where its expression says so much
abbrev says_by : (Term → Asking) → Policy → Bool → Bool → Option Term → Option Said
says_by told policy for to found =
    said_if policy.name policy.permissive policy.kind
    (if not for then asking.OtherCommand else (if not to then asking.OtherRoles else option_map_or told found asking.NoExpression))

-- the truths of a policy, by its expression
abbrev truths_by : (Term → Truth) → Policy → Option Term → List (Policy × Truth)
truths_by truth policy found = map (λ term. (policy, truth term)) (option_to_list found)

-- what one policy says in front of the others
one_says : (truth : Term → Truth) (parts : Term → List Part) (test : Policy → Bool) (truths : Policy → List (Policy × Truth)) (policy : Policy) (more : List Policy) (for to : Bool) (found : Option Term)
    → test policy ≡ to → truths policy ≡ truths_by truth policy found
    → cons_option (says_by (λ term. asking.Asked (truth term) (parts term)) policy for to found) (map said_as (flat_map truths (filter test more)))
    ≡ map said_as (flat_map truths (filter test (cond (for && is_some found) (policy ∷ more) more)))
one_says truth parts test truths policy more false to found tested is = refl
one_says truth parts test truths policy more true false None tested is = refl
one_says truth parts test truths policy more true true None tested is = refl
one_says truth parts test truths policy more true false (Some term) tested is = ap (λ b. map said_as (flat_map truths (cond b (policy ∷ filter test more) (filter test more)))) (sym tested)
one_says truth parts test truths policy more true true (Some term) tested is =
    ap (λ first. map said_as (first ++ flat_map truths (filter test more))) (sym is)
    ∙ ap (λ b. map said_as (flat_map truths (cond b (policy ∷ filter test more) (filter test more)))) (sym tested)

each_says : (s : State) (c : Command) (which : Side) (kind : Kind) (row : List Value) (policies : List Policy)
    → filter_map (λ one. said_if one.policy one.permissive one.kind one.asking) (map (consulted_in s (sight_of s c) c.role (c.name, c.table) which kind row) policies)
    ≡ map said_as (flat_map (λ policy. map (λ term. (policy, truth_in (value (resolved s ((c.name, c.table) ∷ []) term) (shown_to s c) (over c.role row)))) (option_to_list (expression_of policy kind which))) (filter (is_to s c.role) (filter (is_asked kind which) policies)))
each_says s c which kind row [] = refl
each_says s c which kind row (policy ∷ policies) =
    let from : InScope = (c.name, c.table) in
    let truth : Term → Truth = λ term. truth_in (value (resolved s (from ∷ []) term) (shown_to s c) (over c.role row)) in
    let parts : Term → List Part = λ term. parts_by s (sight_of s c) (over c.role row) (parts_at 0 term) (parts_at 0 (resolved s (from ∷ []) term)) in
    ap (cons_option (says_by (λ term. asking.Asked (truth term) (parts term)) policy (is_for_kind policy.kind kind) (is_to s c.role policy) (expression_of policy kind which))) (each_says s c which kind row policies)
    ∙ one_says truth parts (is_to s c.role) (λ policy. map (λ term. (policy, truth term)) (option_to_list (expression_of policy kind which))) policy (filter (is_asked kind which) policies)
    (is_for_kind policy.kind kind) (is_to s c.role policy) (expression_of policy kind which) refl refl

unless_exempt : (reason : Option Exemption) (exempt : Bool) (policies : List Consulted) (said : List Said) → is_some reason ≡ exempt → filter_map (λ one. said_if one.policy one.permissive one.kind one.asking) policies ≡ said
    → said_among (consulting_by reason policies) ≡ (if exempt then [] else said)
unless_exempt (Some reason) true policies said is same = refl
unless_exempt (Some reason) false policies said is same = absurd (true≢false is)
unless_exempt None true policies said is same = absurd (true≢false (sym is))
unless_exempt None false policies said is same = same

pub details_say : DetailsSay
details_say s c which kind row =
    unless_exempt (exemption_of s c.role c.table) (is_exempt s c.role c.table) (map (consulted_in s (sight_of s c) c.role (c.name, c.table) which kind row) (policies_of s c.name))
    (map said_as (truths_in s (shown_to s c) c.role (c.name, c.table) kind which row)) (exempt_by_reason s c.role c.table) (each_says s c which kind row (policies_of s c.name))

-- ---- the verdict

names_said : (permissive passes : Bool) (truths : List (Policy × Truth)) → said_names permissive passes (map said_as truths) ≡ names_where permissive passes truths
names_said permissive passes truths =
    ap (map (λ one. one.policy)) (kept_map (is_said permissive passes) said_as truths) ∙ mapped (λ one. one.policy) said_as (filter (is_such permissive passes) truths)

-- by what is said it is that of the truths
said_verdict : (truths : List (Policy × Truth)) → verdict_by (least None (said_names true true (map said_as truths))) (least None (said_names false false (map said_as truths))) ≡ verdict_of truths
said_verdict truths = λ i. verdict_by (least None (names_said true true truths i)) (least None (names_said false false truths i))

told_verdict : (reason : Option Exemption) (exempt : Bool) (policies : List Consulted) (truths : List (Policy × Truth)) → is_some reason ≡ exempt → said_among (consulting_by reason policies) ≡ (if exempt then [] else map said_as truths)
    → (if exempt then v.Exempt else verdict_of truths) ≡ verdict_told (consulting_by reason policies)
told_verdict (Some reason) true policies truths is same = refl
told_verdict (Some reason) false policies truths is same = absurd (true≢false is)
told_verdict None true policies truths is same = absurd (true≢false (sym is))
told_verdict None false policies truths is same = sym (said_verdict truths) ∙ ap (λ said. verdict_by (least None (said_names true true said)) (least None (said_names false false said))) (sym same)

pub verdict_is_told : VerdictIsTold
verdict_is_told s c which kind row =
    told_verdict (exemption_of s c.role c.table) (is_exempt s c.role c.table) (map (consulted_in s (sight_of s c) c.role (c.name, c.table) which kind row) (policies_of s c.name))
    (truths_in s (shown_to s c) c.role (c.name, c.table) kind which row) (exempt_by_reason s c.role c.table) (details_say s c which kind row)
