-- A walk from a role to those that it has a grant option from meets the owner exactly where the role holds the option.
use Rattle.std.specs.Prelude.{◌≡◌, refl, ℕ, suc, ◌+◌, List, [], ◌∷◌, ◌++◌, Option, Some, None, Bool, true, false, ◌&&◌, ◌||◌, not, cond, if◌then◌else◌, filter, take, slice_get}
use Rattle.std.specs.List.{flat_map, list_any}
use Rattle.std.specs.Str.{bytes_eq}
use Rattle.std.proofs.Common.{sym, ap, ◌∙◌, subst, arith}
use Rattle.std.proofs.lemmas.Bool.{true≢false, or_left}
use Rattle.rls_value.specs.{Names.one_of, declared.verb.Privilege.Privilege}
use Rattle.rls_verdict.specs.rls_expr.specs.declared.policy.Grantee.{Grantee}
use Rattle.rls_verdict.specs.rls_expr.specs.declared.policy.Grantee.TheVariants as g
use Rattle.rls_role.specs.shared_map.specs.Lists.{InKeyOrder}
use Rattle.rls_verdict.specs.rls_catalog.specs.{declared.grant.Grant.Grant, GrantKeys.key_of, GrantKeys.key_order, GrantOptions.is_same_grantee, Membership.fresh}
use Rattle.rls_verdict.specs.rls_catalog.specs.Privileges.{is_same_privilege, is_option_by, optioned_by, roles_in, Options, Owner, Granted}
use Rattle.rls_verdict.specs.rls_catalog.proofs.Walks.{one_of-append, among_first, bytes_same, bytes_own, reads_all}
use Rattle.rls_verdict.specs.rls_catalog.proofs.Inheriting.{or_either, among_got, fresh_within, fresh_all, take_on}
use Rattle.rls_grant.specs.{Considered.is_left_out, Considered.considered, Considered.considered_one, GrantedTo.is_among_first, GrantedTo.is_to, Holders.holders_of}
use Rattle.rls_grant.specs.Origins.{grants_from, origin_in, origins, origins_first}
use Rattle.rls_grant.proofs.HolderLaws.{holders_are}
use Rattle.rls_grant.proofs.SideBySide.{found_among}

-- ---- whom the option is from

-- the grant has the option and is by the role
abbrev hands : List ℕ → Grant → Bool
hands grantor grant = grant.option && bytes_eq grant.grantor grantor

one_if : (option : Bool) (name grantor : List ℕ) (rest : List (List ℕ)) → one_of ((if option then (name ∷ []) else []) ++ rest) grantor ≡ ((option && bytes_eq name grantor) || one_of rest grantor)
one_if true name grantor rest = refl
one_if false name grantor rest = refl

some_if : (to : Bool) (names : List (List ℕ)) (grantor : List ℕ) → one_of (if to then names else []) grantor ≡ (to && one_of names grantor)
some_if true names grantor = refl
some_if false names grantor = refl

among_origins : (privilege : Privilege) (grantee : Grantee) (grantor : List ℕ) (grants : List Grant) → one_of (origins_first privilege grantee grants) grantor ≡ is_among_first (hands grantor) privilege grantee grants
among_origins privilege grantee grantor [] = refl
among_origins privilege grantee grantor (grant ∷ grants) =
    some_if (is_to privilege grantee grant) (origin_in grant ++ origins_first privilege grantee grants) grantor
    ∙ ap (λ b. is_to privilege grantee grant && b) (one_if grant.option grant.grantor grantor (origins_first privilege grantee grants)
    ∙ ap (λ b. hands grantor grant || b) (among_origins privilege grantee grantor grants))

by_order : (option privilege grantor grantee : Bool) → ((option && grantor) && (privilege && grantee)) ≡ ((option && (privilege && grantor)) && grantee)
by_order true true true grantee = refl
by_order true true false grantee = refl
by_order true false true grantee = refl
by_order true false false grantee = refl
by_order false privilege grantor grantee = refl

role_first : (grantee : Grantee) (role : List ℕ) (rest : List (List ℕ)) → one_of (roles_in grantee ++ rest) role ≡ (is_same_grantee grantee (g.Role role) || one_of rest role)
role_first Grantee.Public role rest = refl
role_first (Grantee.Role name) role rest = refl

abbrev roles_of : List Grant → List (List ℕ)
roles_of grants = flat_map (λ grant. roles_in grant.grantee) grants

kept_if : (b : Bool) (role : List ℕ) (grant : Grant) (kept : List Grant) → one_of (roles_of (cond b (grant ∷ kept) kept)) role ≡ ((b && is_same_grantee grant.grantee (g.Role role)) || one_of (roles_of kept) role)
kept_if true role grant kept = role_first grant.grantee role (roles_of kept)
kept_if false role grant kept = refl

-- by some grant the role has the option from the other exactly where it is one of those to whom that granted the option
optioned_is : (privilege : Privilege) (role grantor : List ℕ) (grants : List Grant) → list_any (λ grant. hands grantor grant && is_to privilege (g.Role role) grant) grants ≡ one_of (optioned_by grants privilege grantor) role
optioned_is privilege role grantor [] = refl
optioned_is privilege role grantor (grant ∷ grants) =
    (λ i. by_order grant.option (is_same_privilege grant.privilege privilege) (bytes_eq grant.grantor grantor) (is_same_grantee grant.grantee (g.Role role)) i || optioned_is privilege role grantor grants i)
    ∙ sym (kept_if (is_option_by privilege grantor grant) role grant (filter (is_option_by privilege grantor) grants))

-- ---- where the options of one role are left out

left_alike : (without : Option (List ℕ)) (role : List ℕ) (grantee : Grantee) → is_same_grantee grantee (g.Role role) ≡ true → is_left_out without grantee ≡ is_left_out without (g.Role role)
left_alike without role Grantee.Public is = absurd (true≢false (sym is))
left_alike without role (Grantee.Role name) is = ap (λ other. is_left_out without (g.Role other)) (bytes_same name role is)

option_left : (option out grantor rest : Bool) → (((option && not out) && grantor) && rest) ≡ (not out && ((option && grantor) && rest))
option_left true true grantor rest = refl
option_left true false grantor rest = refl
option_left false true grantor rest = refl
option_left false false grantor rest = refl

nobody_else : (one other privilege : Bool) → (one && (privilege && false)) ≡ (other && (privilege && false))
nobody_else true true privilege = refl
nobody_else true false true = refl
nobody_else true false false = refl
nobody_else false true true = refl
nobody_else false true false = refl
nobody_else false false privilege = refl

grouped : (out one rest : Bool) → (not out && (one && rest)) ≡ ((not out && one) && rest)
grouped true one rest = refl
grouped false one rest = refl

left_if : (same : Bool) (without : Option (List ℕ)) (privilege : Bool) (role grantor : List ℕ) (grant : Grant) → is_same_grantee grant.grantee (g.Role role) ≡ same
    → (((grant.option && not (is_left_out without grant.grantee)) && bytes_eq grant.grantor grantor) && (privilege && same))
    ≡ (not (is_left_out without (g.Role role)) && (hands grantor grant && (privilege && same)))
left_if true without privilege role grantor grant is =
    option_left grant.option (is_left_out without grant.grantee) (bytes_eq grant.grantor grantor) (privilege && true)
    ∙ ap (λ out. not out && (hands grantor grant && (privilege && true))) (left_alike without role grant.grantee is)
left_if false without privilege role grantor grant is =
    nobody_else ((grant.option && not (is_left_out without grant.grantee)) && bytes_eq grant.grantor grantor) (not (is_left_out without (g.Role role)) && hands grantor grant) privilege
    ∙ sym (grouped (is_left_out without (g.Role role)) (hands grantor grant) (privilege && false))

one_considered : (without : Option (List ℕ)) (privilege : Privilege) (role grantor : List ℕ) (grant : Grant)
    → (hands grantor (considered_one without grant) && is_to privilege (g.Role role) (considered_one without grant)) ≡ (not (is_left_out without (g.Role role)) && (hands grantor grant && is_to privilege (g.Role role) grant))
one_considered without privilege role grantor grant = left_if (is_same_grantee grant.grantee (g.Role role)) without (is_same_privilege grant.privilege privilege) role grantor grant refl

pulled : (out one : Bool) (rest : Bool) → ((not out && one) || (not out && rest)) ≡ (not out && (one || rest))
pulled true one rest = refl
pulled false one rest = refl

none_of_none : (out : Bool) → false ≡ (not out && false)
none_of_none true = refl
none_of_none false = refl

any_considered : (without : Option (List ℕ)) (privilege : Privilege) (role grantor : List ℕ) (grants : List Grant)
    → list_any (λ grant. hands grantor grant && is_to privilege (g.Role role) grant) (considered without grants) ≡ (not (is_left_out without (g.Role role)) && list_any (λ grant. hands grantor grant && is_to privilege (g.Role role) grant) grants)
any_considered without privilege role grantor [] = none_of_none (is_left_out without (g.Role role))
any_considered without privilege role grantor (grant ∷ grants) =
    (λ i. one_considered without privilege role grantor grant i || any_considered without privilege role grantor grants i)
    ∙ pulled (is_left_out without (g.Role role)) (hands grantor grant && is_to privilege (g.Role role) grant) (list_any (λ grant. hands grantor grant && is_to privilege (g.Role role) grant) grants)

none_if : (out : Bool) (names : List (List ℕ)) (name : List ℕ) → one_of (if out then [] else names) name ≡ (not out && one_of names name)
none_if true names name = refl
none_if false names name = refl

-- whom the walk goes to are those that granted the role the option
pub origins_are : (without : Option (List ℕ)) (privilege : Privilege) (role grantor : List ℕ) (grants : List Grant) → InKeyOrder key_order key_of grants
    → one_of (origins without privilege role grants) grantor ≡ one_of (optioned_by (considered without grants) privilege grantor) role
origins_are without privilege role grantor grants order =
    none_if (is_left_out without (g.Role role)) (origins_first privilege (g.Role role) (grants_from privilege (g.Role role) grants)) grantor
    ∙ ap (λ b. not (is_left_out without (g.Role role)) && b) (among_origins privilege (g.Role role) grantor (grants_from privilege (g.Role role) grants) ∙ found_among privilege (g.Role role) (hands grantor) grants order)
    ∙ sym (any_considered without privilege role grantor grants)
    ∙ optioned_is privilege role grantor (considered without grants)

-- ---- one more visit

-- where one of the names holds the option, so does the role
abbrev pub Leads : List ℕ → List Grant → Privilege → List ℕ → List (List ℕ) → Type 0
Leads owner grants privilege role names = (name : List ℕ) → one_of names name ≡ true → Options owner grants privilege name → Options owner grants privilege role

-- those who granted one of these the option are among the names
abbrev pub GoesOn : List Grant → Privilege → List (List ℕ) → List (List ℕ) → Type 0
GoesOn grants privilege these names = (name grantor : List ℕ) → one_of these name ≡ true → one_of (optioned_by grants privilege grantor) name ≡ true → one_of names grantor ≡ true

-- these are all that granted the role the option
abbrev pub AreOrigins : List Grant → Privilege → List ℕ → List (List ℕ) → Type 0
AreOrigins grants privilege role more = (grantor : List ℕ) → one_of more grantor ≡ one_of (optioned_by grants privilege grantor) role

pub leads_alone : (owner : List ℕ) (grants : List Grant) (privilege : Privilege) (role : List ℕ) → Leads owner grants privilege role (role ∷ [])
leads_alone owner grants privilege role name is holds =
    or_either (bytes_eq role name) false is (λ same. subst (Options owner grants privilege) (sym (bytes_same role name same)) holds) (λ no. absurd (true≢false (sym no)))

pub own_role : (role : List ℕ) → one_of (role ∷ []) role ≡ true
own_role role = or_left (bytes_eq role role) false (bytes_own role)

pub leads_next : (owner : List ℕ) (grants : List Grant) (privilege : Privilege) (role : List ℕ) (names grown more : List (List ℕ)) (next : ℕ) (name : List ℕ) → slice_get names next ≡ Some name
    → grown ≡ names ++ fresh names more → AreOrigins grants privilege name more → Leads owner grants privilege role names → Leads owner grants privilege role grown
leads_next owner grants privilege role names grown more next name found grows origins leads x is holds =
    or_either (one_of names x) (one_of (fresh names more) x) (sym (one_of-append names (fresh names more) x) ∙ ap (λ ns. one_of ns x) (sym grows) ∙ is) (λ here. leads x here holds)
    (λ new. leads name (among_got names next name found) (Granted x name holds (sym (origins x) ∙ fresh_within names more x new)))

one_more : (next : ℕ) → next + 1 ≡ suc next
one_more next = omega arith

pub taken_next : (names grown more : List (List ℕ)) (next : ℕ) (name : List ℕ) → slice_get names next ≡ Some name → grown ≡ names ++ more → take (next + 1) grown ≡ take next names ++ name ∷ []
taken_next names grown more next name found grows = (λ i. take (one_more next i) (grows i)) ∙ take_on names more next name found

pub on_next : (grants : List Grant) (privilege : Privilege) (names grown more : List (List ℕ)) (next : ℕ) (name : List ℕ) → slice_get names next ≡ Some name
    → grown ≡ names ++ fresh names more → AreOrigins grants privilege name more → GoesOn grants privilege (take next names) names → GoesOn grants privilege (take (next + 1) grown) grown
on_next grants privilege names grown more next name found grows origins on x grantor is granted =
    ap (λ ns. one_of ns grantor) grows
    ∙ or_either (one_of (take next names) x) (one_of (name ∷ []) x)
    (sym (one_of-append (take next names) (name ∷ []) x) ∙ ap (λ ns. one_of ns x) (sym (taken_next names grown (fresh names more) next name found grows)) ∙ is)
    (λ before. among_first names (fresh names more) grantor (on x grantor before granted))
    (λ now. or_either (bytes_eq name x) false now
    (λ same. fresh_all names more grantor (origins grantor ∙ ap (one_of (optioned_by grants privilege grantor)) (bytes_same name x same) ∙ granted))
    (λ no. absurd (true≢false (sym no))))

either_not : (a b : Bool) → a ≡ false → b ≡ false → (a || (b || false)) ≡ false
either_not true b none isnt = absurd (true≢false none)
either_not false true none isnt = absurd (true≢false isnt)
either_not false false none isnt = refl

pub apart_next : (owner : List ℕ) (names grown more : List (List ℕ)) (next : ℕ) (name : List ℕ) → slice_get names next ≡ Some name → grown ≡ names ++ more → bytes_eq name owner ≡ false
    → one_of (take next names) owner ≡ false → one_of (take (next + 1) grown) owner ≡ false
apart_next owner names grown more next name found grows isnt apart =
    ap (λ ns. one_of ns owner) (taken_next names grown more next name found grows)
    ∙ one_of-append (take next names) (name ∷ []) owner
    ∙ either_not (one_of (take next names) owner) (bytes_eq name owner) apart isnt

-- ---- at the end

-- where the owner is met the role holds the option
pub owner_met : (owner : List ℕ) (grants : List Grant) (privilege : Privilege) (role : List ℕ) (names : List (List ℕ)) (next : ℕ) (name : List ℕ) → slice_get names next ≡ Some name → bytes_eq name owner ≡ true
    → Leads owner grants privilege role names → true ≡ one_of (holders_of owner grants privilege) role
owner_met owner grants privilege role names next name found is leads =
    sym ((holders_are owner grants privilege role).1 (leads name (among_got names next name found) (subst (Options owner grants privilege) (sym (bytes_same name owner is)) Owner)))

not_if : (b : Bool) → (b ≡ true → ⊥) → b ≡ false
not_if true never = absurd (never refl)
not_if false never = refl

-- nobody holds it who goes on to none but such names
nobody_holds : (owner : List ℕ) (grants : List Grant) (privilege : Privilege) (names : List (List ℕ)) → GoesOn grants privilege names names → one_of names owner ≡ false
    → (name : List ℕ) → Options owner grants privilege name → one_of names name ≡ true → ⊥
nobody_holds owner grants privilege names on apart name Owner is = true≢false (sym is ∙ apart)
nobody_holds owner grants privilege names on apart name (Granted grantor grantee holds granted) is =
    nobody_holds owner grants privilege names on apart grantor holds (on grantee grantor is granted)

-- where all were visited and the owner wasn't met, the role doesn't hold it
pub owner_not_met : (owner : List ℕ) (grants : List Grant) (privilege : Privilege) (role : List ℕ) (names : List (List ℕ)) (next : ℕ) → slice_get names next ≡ None → one_of names role ≡ true
    → GoesOn grants privilege (take next names) names → one_of (take next names) owner ≡ false → false ≡ one_of (holders_of owner grants privilege) role
owner_not_met owner grants privilege role names next past itself on apart =
    let all : take next names ≡ names = reads_all names next past in
    sym (not_if (one_of (holders_of owner grants privilege) role)
    (λ holds. nobody_holds owner grants privilege names (subst (λ these. GoesOn grants privilege these names) all on) (ap (λ ns. one_of ns owner) (sym all) ∙ apart) role ((holders_are owner grants privilege role).0 holds) itself))
