-- States that agree on what is read give the same: whose privileges a role has, which it holds, which policies apply.
use Rattle.std.specs.Prelude.{◌≡◌, refl, ℕ, zero, suc, ◌+◌, ◌≤◌, List, [], ◌∷◌, ◌++◌, Option, Some, None, Bool, true, false, ◌||◌, ◌&&◌, not, cond, if◌then◌else◌, length, filter, slice_get}
use Rattle.std.specs.List.{list_any, list_all}
use Rattle.std.specs.Option.{option_map}
use Rattle.std.specs.Str.{bytes_eq}
use Rattle.std.proofs.Common.{arith, sym, ap, ◌∙◌, subst}
use Rattle.std.proofs.lemmas.Bool.{true≢false}
use Rattle.rls_expr.specs.rls_value.specs.{Names.one_of, declared.verb.Privilege.Privilege, declared.verb.Kind.Kind, declared.refusal.Why.Why}
use Rattle.rls_expr.specs.rls_value.specs.declared.refusal.Why.TheVariants as w
use Rattle.rls_expr.specs.rls_value.specs.declared.object.Object.TheVariants as o
use Rattle.rls_expr.specs.{declared.table.TableDef.TableDef, declared.policy.Grantee.Grantee, declared.policy.Policy.Policy, declared.policy.Grantee.TheVariants.Public, declared.policy.Grantee.TheVariants.Role}
use Rattle.rls_catalog.specs.{declared.grant.Grant.Grant, declared.verdict.Side.Side, State.State, State.role_of, State.grants_of, State.policies_of, State.AgreesOn, Privileges.includes, Privileges.concerns, Privileges.is_same_privilege, Privileges.is_whole, Privileges.is_on, Privileges.is_of_columns, Privileges.holds, Privileges.holds_reads, Privileges.missing}
use Rattle.rls_catalog.proofs.{StateLaws.agrees-append, Inheriting.or_either, Inheriting.among_got, Inheriting.walk_keeps, Walks.bytes_same, Walks.left_all, Walks.walk_step, Walks.walk_end, Walks.walk_finished}
use Rattle.rls_catalog.specs.Membership.{attributes_in, attributes_of, inherited_if, inherited_by, fresh, walk, granted_roles, reached_of, walk_reads, walked_by, has_privileges_of, effective_roles_reads}
use Rattle.rls_catalog.specs.Verdict.{asked_of, is_asked, is_everyone, is_to, is_to_everyone, applying_of, applying_reads, is_exempt, exempt_reads}

-- the two states let each of the names inherit the same
abbrev pub InheritSame : State → State → List (List ℕ) → Type 0
InheritSame s other names = (name : List ℕ) → one_of names name ≡ true → inherited_by other name ≡ inherited_by s name

inherit_same : (s other : State) (names : List (List ℕ)) → AgreesOn s other (walk_reads names) → InheritSame s other names
inherit_same s other [] agrees = λ name is. absurd (true≢false (sym is))
inherit_same s other (x ∷ xs) agrees = λ name is.
    or_either (bytes_eq x name) (one_of xs name) is
    (λ here. subst (λ y. inherited_by other y ≡ inherited_by s y) (bytes_same x name here) (λ i. inherited_if (sym agrees.0 i) (sym agrees.1.0 i)))
    (inherit_same s other xs agrees.1.1 name)

visit_frame : (found : Option (List ℕ)) (n : ℕ) (s other : State) (names : List (List ℕ)) (next : ℕ) → slice_get names next ≡ found
    → InheritSame s other (walk (suc n) s names next)
    → ((grown : List (List ℕ)) → InheritSame s other (walk n s grown (suc next)) → walk n other grown (suc next) ≡ walk n s grown (suc next))
    → walk (suc n) other names next ≡ walk (suc n) s names next
visit_frame None n s other names next past same further = walk_end (suc n) other names next past ∙ sym (walk_end (suc n) s names next past)
visit_frame (Some name) n s other names next found same further =
    let grown : List (List ℕ) = names ++ fresh names (inherited_by s name) in
    let here : inherited_by other name ≡ inherited_by s name = same name (walk_keeps (suc n) s names next name (among_got names next name found)) in
    walk_step n other names next name found ∙ ap (λ more. walk n other (names ++ fresh names more) (suc next)) here
    ∙ further grown (λ x is. same x (ap (λ ns. one_of ns x) (walk_step n s names next name found) ∙ is))
    ∙ sym (walk_step n s names next name found)

walk_frame : (n : ℕ) (s other : State) (names : List (List ℕ)) (next : ℕ) → InheritSame s other (walk n s names next) → walk n other names next ≡ walk n s names next
walk_frame zero s other names next same = refl
walk_frame (suc n) s other names next same = visit_frame (slice_get names next) n s other names next refl same (λ grown. walk_frame n s other grown (suc next))

enough : (s : State) (role : List ℕ) (n : ℕ) → suc (length (granted_roles s)) ≤ n → walk n s (role ∷ []) 0 ≡ reached_of s role
unfolding reached_of
enough s role n more = walk_finished (suc (length (granted_roles s))) n s (role ∷ []) 0 (omega (arith, left_all (granted_roles s) (role ∷ []))) more

pub reached_frame : (s other : State) (role : List ℕ) → AgreesOn s other (walk_reads (reached_of s role)) → reached_of other role ≡ reached_of s role
reached_frame s other role agrees =
    let n : ℕ = suc (length (granted_roles s)) + suc (length (granted_roles other)) in
    let there : walk n s (role ∷ []) 0 ≡ reached_of s role = enough s role n (omega arith) in
    sym (enough other role n (omega arith))
    ∙ walk_frame n s other (role ∷ []) 0 (λ name is. inherit_same s other (reached_of s role) agrees name (sym (ap (λ ns. one_of ns name) there) ∙ is))
    ∙ there

-- a role's attributes, and the roles that it takes to tell whose privileges it has
pub attributes_frame : (s other : State) (role : List ℕ) → role_of s role ≡ role_of other role → attributes_of other role ≡ attributes_of s role
attributes_frame s other role agrees = ap attributes_in (sym agrees)

walked_if : (superuser : Bool) (s other : State) (role : List ℕ) → AgreesOn s other (walk_reads (if superuser then [] else reached_of s role))
    → (if superuser then [] else reached_of other role) ≡ (if superuser then [] else reached_of s role)
walked_if true s other role agrees = refl
walked_if false s other role agrees = reached_frame s other role agrees

pub walked_frame : (s other : State) (role : List ℕ) → AgreesOn s other (effective_roles_reads s role) → walked_by other role ≡ walked_by s role
walked_frame s other role agrees =
    ap (λ def. if def.superuser then [] else reached_of other role) (attributes_frame s other role agrees.0)
    ∙ walked_if (attributes_of s role).superuser s other role agrees.1

pub effective_roles_reads_frame : (s other : State) (role : List ℕ) → AgreesOn s other (effective_roles_reads s role) → effective_roles_reads other role ≡ effective_roles_reads s role
effective_roles_reads_frame s other role agrees = ap (λ names. o.Role role ∷ walk_reads names) (walked_frame s other role agrees)

pub has_frame : (s other : State) (role name : List ℕ) → AgreesOn s other (effective_roles_reads s role) → has_privileges_of other role name ≡ has_privileges_of s role name
has_frame s other role name agrees = λ i. (attributes_frame s other role agrees.0 i).superuser || one_of (walked_frame s other role agrees i) name

-- privileges
holds_if : (superuser : Bool) (s other : State) (role : List ℕ) (privilege : Privilege) (table : List ℕ)
    → AgreesOn s other (if superuser then [] else (o.Grants table ∷ [])) → walked_by other role ≡ walked_by s role
    → (superuser || list_any (λ grant. is_whole grant && (is_same_privilege grant.privilege privilege && includes superuser (walked_by other role) grant.grantee)) (grants_of other table))
    ≡ (superuser || list_any (λ grant. is_whole grant && (is_same_privilege grant.privilege privilege && includes superuser (walked_by s role) grant.grantee)) (grants_of s table))
holds_if true s other role privilege table agrees walked = refl
holds_if false s other role privilege table agrees walked = λ i. list_any (λ grant. is_whole grant && (is_same_privilege grant.privilege privilege && includes false (walked i) grant.grantee)) (sym agrees.0 i)

pub holds_frame : (s other : State) (role : List ℕ) (privilege : Privilege) (table : List ℕ) → AgreesOn s other (holds_reads s role table) → holds other role privilege table ≡ holds s role privilege table
holds_frame s other role privilege table agrees =
    let parts = agrees-append s other (effective_roles_reads s role) (if (attributes_of s role).superuser then [] else (o.Grants table ∷ [])) agrees in
    (λ i. (attributes_frame s other role parts.0.0 i).superuser || list_any (λ grant. is_whole grant && (is_same_privilege grant.privilege privilege && includes (attributes_frame s other role parts.0.0 i).superuser (walked_by other role) grant.grantee)) (grants_of other table))
    ∙ holds_if (attributes_of s role).superuser s other role privilege table parts.1 (walked_frame s other role parts.0)

pub holds_reads_frame : (s other : State) (role table : List ℕ) → AgreesOn s other (holds_reads s role table) → holds_reads other role table ≡ holds_reads s role table
holds_reads_frame s other role table agrees =
    let parts = agrees-append s other (effective_roles_reads s role) (if (attributes_of s role).superuser then [] else (o.Grants table ∷ [])) agrees in
    λ i. effective_roles_reads_frame s other role parts.0 i ++ (if (attributes_frame s other role parts.0.0 i).superuser then [] else (o.Grants table ∷ []))

-- what a role lacks, by whose privileges it has and by the grants on the table
abbrev lacking : Bool → List (List ℕ) → List Grant → Privilege → List ℕ → List (List ℕ) → Option Why
lacking superuser names grants privilege table columns =
    if superuser || list_any (λ grant. is_whole grant && (is_same_privilege grant.privilege privilege && includes superuser names grant.grantee)) grants then None
    else (if is_of_columns privilege && list_any (λ grant. not (is_whole grant) && (is_same_privilege grant.privilege privilege && includes superuser names grant.grantee)) grants
    then option_map (w.Column privilege table) (slice_get (filter (λ column. not (list_any (λ grant. is_on column grant && (is_same_privilege grant.privilege privilege && includes superuser names grant.grantee)) grants)) columns) 0)
    else Some (w.Privilege privilege table))

missing_if : (superuser : Bool) (s other : State) (role : List ℕ) (privilege : Privilege) (table : List ℕ) (columns : List (List ℕ))
    → AgreesOn s other (if superuser then [] else (o.Grants table ∷ [])) → walked_by other role ≡ walked_by s role
    → lacking superuser (walked_by other role) (grants_of other table) privilege table columns ≡ lacking superuser (walked_by s role) (grants_of s table) privilege table columns
missing_if true s other role privilege table columns agrees walked = refl
missing_if false s other role privilege table columns agrees walked = λ i. lacking false (walked i) (sym agrees.0 i) privilege table columns

pub missing_frame : (s other : State) (role : List ℕ) (privilege : Privilege) (table : List ℕ) (columns : List (List ℕ))
    → AgreesOn s other (holds_reads s role table) → missing other role privilege table columns ≡ missing s role privilege table columns
missing_frame s other role privilege table columns agrees =
    let parts = agrees-append s other (effective_roles_reads s role) (if (attributes_of s role).superuser then [] else (o.Grants table ∷ [])) agrees in
    (λ i. lacking (attributes_frame s other role parts.0.0 i).superuser (walked_by other role) (grants_of other table) privilege table columns)
    ∙ missing_if (attributes_of s role).superuser s other role privilege table columns parts.1 (walked_frame s other role parts.0)

-- policies
asked_frame : (s other : State) (table : List ℕ) (kind : Kind) (which : Side) → policies_of s table ≡ policies_of other table → asked_of other table kind which ≡ asked_of s table kind which
asked_frame s other table kind which agrees = ap (filter (is_asked kind which)) (sym agrees)

everyone_if : (all : Bool) (s other : State) (role : List ℕ) → AgreesOn s other (if all then [] else effective_roles_reads s role)
    → (if all then [] else effective_roles_reads other role) ≡ (if all then [] else effective_roles_reads s role)
everyone_if true s other role agrees = refl
everyone_if false s other role agrees = effective_roles_reads_frame s other role agrees

pub applying_reads_frame : (s other : State) (role table : List ℕ) (kind : Kind) (which : Side) → AgreesOn s other (applying_reads s role table kind which)
    → applying_reads other role table kind which ≡ applying_reads s role table kind which
applying_reads_frame s other role table kind which agrees =
    let same : asked_of other table kind which ≡ asked_of s table kind which = asked_frame s other table kind which agrees.0 in
    ap (λ asked. o.Policies table ∷ (if list_all is_to_everyone asked then [] else effective_roles_reads other role)) same
    ∙ ap (λ reads. o.Policies table ∷ reads) (everyone_if (list_all is_to_everyone (asked_of s table kind which)) s other role agrees.1)

or_true : (a b : Bool) → b ≡ true → (a || b) ≡ true
or_true true b is = refl
or_true false b is = is

both : (a b : Bool) → (a && b) ≡ true → (a ≡ true) × (b ≡ true)
both true b is = (refl, is)
both false b is = absurd (true≢false (sym is))

everyone_is : (s : State) (role : List ℕ) (to : List Grantee) → list_any is_everyone to ≡ true → list_any (concerns s role) to ≡ true
everyone_is s role [] is = is
everyone_is s role (Public ∷ to) is = refl
everyone_is s role (Role name ∷ to) is = or_true (concerns s role (Role name)) (list_any (concerns s role) to) (everyone_is s role to is)

kept : (b : Bool) (policy : Policy) (rest policies : List Policy) → b ≡ true → rest ≡ policies → cond b (policy ∷ rest) rest ≡ policy ∷ policies
kept true policy rest policies is same = ap (λ more. policy ∷ more) same
kept false policy rest policies is same = absurd (true≢false (sym is))

-- policies TO PUBLIC are for each role
pub all_are_to : (s : State) (role : List ℕ) (policies : List Policy) → list_all is_to_everyone policies ≡ true → filter (is_to s role) policies ≡ policies
all_are_to s role [] is = refl
all_are_to s role (policy ∷ policies) is =
    let parts = both (is_to_everyone policy) (list_all is_to_everyone policies) is in
    kept (is_to s role policy) policy (filter (is_to s role) policies) policies (everyone_is s role policy.to parts.0) (all_are_to s role policies parts.1)

applying_if : (all : Bool) (s other : State) (role : List ℕ) (asked : List Policy) → list_all is_to_everyone asked ≡ all
    → AgreesOn s other (if all then [] else effective_roles_reads s role) → filter (is_to other role) asked ≡ filter (is_to s role) asked
applying_if true s other role asked all agrees = all_are_to other role asked all ∙ sym (all_are_to s role asked all)
applying_if false s other role asked all agrees = λ i. filter (λ policy. list_any (includes (attributes_frame s other role agrees.0 i).superuser (walked_frame s other role agrees i)) policy.to) asked

pub applying_frame : (s other : State) (role table : List ℕ) (kind : Kind) (which : Side) → AgreesOn s other (applying_reads s role table kind which)
    → applying_of other role table kind which ≡ applying_of s role table kind which
applying_frame s other role table kind which agrees =
    ap (filter (is_to other role)) (asked_frame s other table kind which agrees.0)
    ∙ applying_if (list_all is_to_everyone (asked_of s table kind which)) s other role (asked_of s table kind which) refl agrees.1

-- exemption
and_none : (a b : Bool) → (a && false) ≡ (b && false)
and_none true true = refl
and_none true false = refl
and_none false true = refl
and_none false false = refl

exempt_by : (superuser bypass forced a b : Bool) → ((superuser || (bypass || forced)) ≡ false → a ≡ b)
    → (superuser || (bypass || (a && not forced))) ≡ (superuser || (bypass || (b && not forced)))
exempt_by true bypass forced a b same = refl
exempt_by false true forced a b same = refl
exempt_by false false true a b same = and_none a b
exempt_by false false false a b same = ap (λ x. x && true) (same refl)

exempt_if : (enabled : Bool) (s other : State) (role : List ℕ) (table : TableDef)
    → AgreesOn s other (if enabled then (o.Role role ∷ (if (attributes_of s role).superuser || ((attributes_of s role).bypass_rls || table.forced) then [] else effective_roles_reads s role)) else [])
    → (not enabled || ((attributes_of other role).superuser || ((attributes_of other role).bypass_rls || (has_privileges_of other role table.owner && not table.forced))))
    ≡ (not enabled || ((attributes_of s role).superuser || ((attributes_of s role).bypass_rls || (has_privileges_of s role table.owner && not table.forced))))
exempt_if false s other role table agrees = refl
exempt_if true s other role table agrees =
    (λ i. (attributes_frame s other role agrees.0 i).superuser || ((attributes_frame s other role agrees.0 i).bypass_rls || (has_privileges_of other role table.owner && not table.forced)))
    ∙ exempt_by (attributes_of s role).superuser (attributes_of s role).bypass_rls table.forced (has_privileges_of other role table.owner) (has_privileges_of s role table.owner)
    (λ goes_on. has_frame s other role table.owner (subst (λ b. AgreesOn s other (if b then [] else effective_roles_reads s role)) goes_on agrees.1))

pub exempt_frame : (s other : State) (role : List ℕ) (table : TableDef) → AgreesOn s other (exempt_reads s role table) → is_exempt other role table ≡ is_exempt s role table
exempt_frame s other role table agrees = exempt_if table.enabled s other role table agrees

reads_if : (enabled : Bool) (s other : State) (role : List ℕ) (table : TableDef)
    → AgreesOn s other (if enabled then (o.Role role ∷ (if (attributes_of s role).superuser || ((attributes_of s role).bypass_rls || table.forced) then [] else effective_roles_reads s role)) else [])
    → (if enabled then (o.Role role ∷ (if (attributes_of other role).superuser || ((attributes_of other role).bypass_rls || table.forced) then [] else effective_roles_reads other role)) else [])
    ≡ (if enabled then (o.Role role ∷ (if (attributes_of s role).superuser || ((attributes_of s role).bypass_rls || table.forced) then [] else effective_roles_reads s role)) else [])
reads_if false s other role table agrees = refl
reads_if true s other role table agrees =
    ap (λ def. o.Role role ∷ (if def.superuser || (def.bypass_rls || table.forced) then [] else effective_roles_reads other role)) (attributes_frame s other role agrees.0)
    ∙ ap (λ reads. o.Role role ∷ reads) (everyone_if ((attributes_of s role).superuser || ((attributes_of s role).bypass_rls || table.forced)) s other role agrees.1)

pub exempt_reads_frame : (s other : State) (role : List ℕ) (table : TableDef) → AgreesOn s other (exempt_reads s role table) → exempt_reads other role table ≡ exempt_reads s role table
exempt_reads_frame s other role table agrees = reads_if table.enabled s other role table agrees
