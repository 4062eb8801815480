-- Where each grantor holds the grant option, one grant tells whether a role does; GRANT and REVOKE leave it so.
use Rattle.std.specs.Prelude.{◌≡◌, refl, ℕ, zero, suc, List, [], ◌∷◌, ◌++◌, Bool, true, false, ◌&&◌, ◌||◌, not, cond, if◌then◌else◌, ◌≤◌, ◌-◌, map, filter, length, get_or, take, drop, Result, Ok, Err}
use Rattle.std.specs.BTreeSet.{BTreeSet, contains}
use Rattle.std.specs.List.{AllByRecursion, flat_map, list_any, position_or_len}
use Rattle.std.specs.Ordering.{is_lt}
use Rattle.std.specs.Str.{bytes_eq}
use Rattle.std.proofs.Common.{arith, sym, ap, ◌∙◌, subst, ◌⊎◌, inl, inr}
use Rattle.std.proofs.lemmas.List.{take_all}
use Rattle.std.proofs.lemmas.Bool.{true≢false, or_left, or_right}
use Rattle.rls_value.specs.{Giving.and_then, Names.one_of, declared.verb.Privilege.Privilege, declared.refusal.Refusal.Refusal, declared.refusal.Refusal.TheVariants.Dependent}
use Rattle.rls_verdict.specs.rls_expr.specs.declared.policy.Grantee.{Grantee}
use Rattle.rls_verdict.specs.rls_catalog.specs.{declared.grant.Grant.Grant, State.name_order}
use Rattle.rls_verdict.specs.rls_catalog.specs.Privileges.{is_same_privilege, is_option_by, optioned_by, roles_in, Options, Owner, Granted}
use Rattle.rls_verdict.specs.rls_catalog.specs.GrantOptions.{GrantorsHold, HaveGrantors, MayStay, is_same_grantee, not_grantable, without_options_of}
use Rattle.rls_verdict.specs.rls_catalog.proofs.{Inheriting.or_either, Revoking.all_left, Walks.bytes_own, Walks.bytes_same, Walks.one_of-append}
use Rattle.rls_role.specs.rls_source.specs.Sequences.{put_before}
use Rattle.rls_role.specs.rls_statement.specs.declared.statement.RevokePrivileges.{RevokePrivileges}
use Rattle.rls_grant.specs.{declared.grantors.Grantor.Grantor, GrantedTo.has_option, GrantedTo.is_to, Granting.grant_order, Granting.is_there, Granting.with_grant, Granting.with_grant_option, Granting.with_grants, Holders.holders_of, Optioned.AreHolders}
use Rattle.rls_grant.specs.Revoking.{is_taken, left_after, left_or_refused, stays, without_grant_option, without_taken}
use Rattle.rls_grant.proofs.HolderLaws.{holders_are}

-- ---- tests

pub no_true : {P : Type 0} → false ≡ true → P
no_true is = absurd (true≢false (sym is))

pub first_of : (a b : Bool) → (a && b) ≡ true → a ≡ true
first_of true b is = refl
first_of false b is = is

pub last_of : (a b : Bool) → (a && b) ≡ true → b ≡ true
last_of true b is = is
last_of false b is = no_true is

pub both_true : (a b : Bool) → a ≡ true → b ≡ true → (a && b) ≡ true
both_true a b p q = λ i. p i && q i

pub first_none : (a b : Bool) → (a || b) ≡ false → a ≡ false
first_none true b is = is
first_none false b is = refl

pub last_none : (a b : Bool) → (a || b) ≡ false → b ≡ false
last_none true b is = absurd (true≢false is)
last_none false b is = is

pub none_of_both : (a b : Bool) → a ≡ false → b ≡ false → (a || b) ≡ false
none_of_both a b p q = λ i. p i || q i

same_truth : (a b : Bool) → (a ≡ true → b ≡ true) → (b ≡ true → a ≡ true) → a ≡ b
same_truth true b to from = sym (to refl)
same_truth false true to from = from refl
same_truth false false to from = refl

same_itself : (p : Privilege) → is_same_privilege p p ≡ true
same_itself Privilege.Select = refl
same_itself Privilege.Insert = refl
same_itself Privilege.Update = refl
same_itself Privilege.Delete = refl

privilege_is : (p q : Privilege) → is_same_privilege p q ≡ true → p ≡ q
privilege_is Privilege.Select Privilege.Select is = refl
privilege_is Privilege.Select Privilege.Insert is = no_true is
privilege_is Privilege.Select Privilege.Update is = no_true is
privilege_is Privilege.Select Privilege.Delete is = no_true is
privilege_is Privilege.Insert Privilege.Select is = no_true is
privilege_is Privilege.Insert Privilege.Insert is = refl
privilege_is Privilege.Insert Privilege.Update is = no_true is
privilege_is Privilege.Insert Privilege.Delete is = no_true is
privilege_is Privilege.Update Privilege.Select is = no_true is
privilege_is Privilege.Update Privilege.Insert is = no_true is
privilege_is Privilege.Update Privilege.Update is = refl
privilege_is Privilege.Update Privilege.Delete is = no_true is
privilege_is Privilege.Delete Privilege.Select is = no_true is
privilege_is Privilege.Delete Privilege.Insert is = no_true is
privilege_is Privilege.Delete Privilege.Update is = no_true is
privilege_is Privilege.Delete Privilege.Delete is = refl

pub any_weaker : {X : Type 0} (p q : X → Bool) → ((x : X) → p x ≡ true → q x ≡ true) → (xs : List X) → list_any p xs ≡ true → list_any q xs ≡ true
any_weaker p q weaker [] is = no_true is
any_weaker p q weaker (x ∷ xs) is =
    or_either (p x) (list_any p xs) is (λ here. or_left (q x) (list_any q xs) (weaker x here)) (λ there. or_right (q x) (list_any q xs) (any_weaker p q weaker xs there))

any_mapped : {X : Type 0} (p : X → Bool) (f : X → X) → ((x : X) → p x ≡ true → p (f x) ≡ true) → (xs : List X) → list_any p xs ≡ true → list_any p (map f xs) ≡ true
any_mapped p f keeps [] is = no_true is
any_mapped p f keeps (x ∷ xs) is =
    or_either (p x) (list_any p xs) is (λ here. or_left (p (f x)) (list_any p (map f xs)) (keeps x here)) (λ there. or_right (p (f x)) (list_any p (map f xs)) (any_mapped p f keeps xs there))

any_put : {X : Type 0} (p : X → Bool) (new : X) (n : ℕ) (xs : List X) → list_any p xs ≡ true → list_any p (take n xs ++ new ∷ drop n xs) ≡ true
any_put p new zero xs is = or_right (p new) (list_any p xs) is
any_put p new (suc n) [] is = no_true is
any_put p new (suc n) (x ∷ xs) is =
    or_either (p x) (list_any p xs) is (λ here. or_left (p x) (list_any p (take n xs ++ new ∷ drop n xs)) here) (λ there. or_right (p x) (list_any p (take n xs ++ new ∷ drop n xs)) (any_put p new n xs there))

-- ---- who has the option from whom

-- the role has the option from the grantor by this grant
abbrev from : Privilege → List ℕ → List ℕ → Grant → Bool
from privilege grantor role grant = is_option_by privilege grantor grant && is_same_grantee grant.grantee (Grantee.Role role)

or_none : (b : Bool) → (b || false) ≡ b
or_none true = refl
or_none false = refl

role_among : (grantee : Grantee) (role : List ℕ) → one_of (roles_in grantee) role ≡ is_same_grantee grantee (Grantee.Role role)
role_among Grantee.Public role = refl
role_among (Grantee.Role name) role = or_none (bytes_eq name role)

optioned_if : (b : Bool) (grant : Grant) (grants : List Grant) (role : List ℕ) (more : Bool) → one_of (flat_map (λ grant. roles_in grant.grantee) grants) role ≡ more
    → one_of (flat_map (λ grant. roles_in grant.grantee) (cond b (grant ∷ grants) grants)) role ≡ ((b && is_same_grantee grant.grantee (Grantee.Role role)) || more)
optioned_if true grant grants role more same =
    one_of-append (roles_in grant.grantee) (flat_map (λ grant. roles_in grant.grantee) grants) role ∙ (λ i. role_among grant.grantee role i || same i)
optioned_if false grant grants role more same = same

optioned_is : (grants : List Grant) (privilege : Privilege) (grantor role : List ℕ) → one_of (optioned_by grants privilege grantor) role ≡ list_any (from privilege grantor role) grants
optioned_is [] privilege grantor role = refl
optioned_is (grant ∷ grants) privilege grantor role =
    optioned_if (is_option_by privilege grantor grant) grant (filter (is_option_by privilege grantor) grants) role (list_any (from privilege grantor role) grants) (optioned_is grants privilege grantor role)

-- whoever has the option from someone by the first has it by the others
abbrev NoFewer : List Grant → List Grant → Type 0
NoFewer grants others = (privilege : Privilege) (grantor role : List ℕ) → list_any (from privilege grantor role) grants ≡ true → list_any (from privilege grantor role) others ≡ true

options_more : (owner : List ℕ) (grants others : List Grant) → NoFewer grants others → (privilege : Privilege) (role : List ℕ) → Options owner grants privilege role → Options owner others privilege role
options_more owner grants others more privilege role Owner = Owner
options_more owner grants others more privilege role (Granted grantor grantee holds is) =
    Granted grantor grantee (options_more owner grants others more privilege grantor holds)
    (optioned_is others privilege grantor grantee ∙ more privilege grantor grantee (sym (optioned_is grants privilege grantor grantee) ∙ is))

hold_more : (owner : List ℕ) (grants others these : List Grant) → NoFewer grants others → GrantorsHold owner grants these → GrantorsHold owner others these
hold_more owner grants others [] more hold = tt
hold_more owner grants others (grant ∷ these) more hold =
    (options_more owner grants others more grant.privilege grant.grantor hold.0, hold_more owner grants others these more hold.1)

-- ---- by one grant

pub owner_holds : (owner role : List ℕ) (grants : List Grant) (privilege : Privilege) → bytes_eq role owner ≡ true → true ≡ one_of (holders_of owner grants privilege) role
owner_holds owner role grants privilege is = sym ((holders_are owner grants privilege role).1 (subst (Options owner grants privilege) (sym (bytes_same role owner is)) Owner))

-- by one of these grants the role has the option from a grantor who holds it
record IsFrom (owner : List ℕ) (all these : List Grant) (privilege : Privilege) (role : List ℕ) : Type 0 where
  grantor : List ℕ
  holds : Options owner all privilege grantor
  gave : list_any (from privilege grantor role) these ≡ true

from_this : (owner : List ℕ) (all these : List Grant) (grant : Grant) (privilege : Privilege) (role : List ℕ) → Options owner all grant.privilege grant.grantor
    → (grant.option && is_to privilege (Grantee.Role role) grant) ≡ true → IsFrom owner all (grant ∷ these) privilege role
from_this owner all these grant privilege role holds is =
    let to : is_to privilege (Grantee.Role role) grant ≡ true = last_of grant.option (is_to privilege (Grantee.Role role) grant) is in
    let same : is_same_privilege grant.privilege privilege ≡ true = first_of (is_same_privilege grant.privilege privilege) (is_same_grantee grant.grantee (Grantee.Role role)) to in
    let by : is_option_by privilege grant.grantor grant ≡ true =
    both_true grant.option (is_same_privilege grant.privilege privilege && bytes_eq grant.grantor grant.grantor) (first_of grant.option (is_to privilege (Grantee.Role role) grant) is)
    (both_true (is_same_privilege grant.privilege privilege) (bytes_eq grant.grantor grant.grantor) same (bytes_own grant.grantor)) in
    record {
      grantor = grant.grantor;
      holds = subst (λ p. Options owner all p grant.grantor) (privilege_is grant.privilege privilege same) holds;
      gave = or_left (from privilege grant.grantor role grant) (list_any (from privilege grant.grantor role) these)
          (both_true (is_option_by privilege grant.grantor grant) (is_same_grantee grant.grantee (Grantee.Role role)) by
          (last_of (is_same_privilege grant.privilege privilege) (is_same_grantee grant.grantee (Grantee.Role role)) to));
    }

from_those : (owner : List ℕ) (all these : List Grant) (grant : Grant) (privilege : Privilege) (role : List ℕ) → IsFrom owner all these privilege role → IsFrom owner all (grant ∷ these) privilege role
from_those owner all these grant privilege role it = record {
  grantor = it.grantor;
  holds = it.holds;
  gave = or_right (from privilege it.grantor role grant) (list_any (from privilege it.grantor role) these) it.gave;
}

is_from : (owner : List ℕ) (all these : List Grant) (privilege : Privilege) (role : List ℕ) → GrantorsHold owner all these → has_option privilege (Grantee.Role role) these ≡ true → IsFrom owner all these privilege role
is_from owner all [] privilege role hold has = no_true has
is_from owner all (grant ∷ these) privilege role hold has =
    or_either (grant.option && is_to privilege (Grantee.Role role) grant) (has_option privilege (Grantee.Role role) these) has
    (λ here. from_this owner all these grant privilege role hold.0 here)
    (λ there. from_those owner all these grant privilege role (is_from owner all these privilege role hold.1 there))

given : (owner : List ℕ) (grants : List Grant) (privilege : Privilege) (role : List ℕ) → IsFrom owner grants grants privilege role → Options owner grants privilege role
given owner grants privilege role it = Granted it.grantor role it.holds (optioned_is grants privilege it.grantor role ∙ it.gave)

from_is_option : (privilege : Privilege) (grantor role : List ℕ) (grant : Grant) → from privilege grantor role grant ≡ true → (grant.option && is_to privilege (Grantee.Role role) grant) ≡ true
from_is_option privilege grantor role grant is =
    let by : is_option_by privilege grantor grant ≡ true = first_of (is_option_by privilege grantor grant) (is_same_grantee grant.grantee (Grantee.Role role)) is in
    both_true grant.option (is_to privilege (Grantee.Role role) grant) (first_of grant.option (is_same_privilege grant.privilege privilege && bytes_eq grant.grantor grantor) by)
    (both_true (is_same_privilege grant.privilege privilege) (is_same_grantee grant.grantee (Grantee.Role role))
    (first_of (is_same_privilege grant.privilege privilege) (bytes_eq grant.grantor grantor) (last_of grant.option (is_same_privilege grant.privilege privilege && bytes_eq grant.grantor grantor) by))
    (last_of (is_option_by privilege grantor grant) (is_same_grantee grant.grantee (Grantee.Role role)) is))

-- who holds it is the owner, or has it by a grant
has_if_holds : (owner : List ℕ) (grants : List Grant) (privilege : Privilege) (role : List ℕ) → Options owner grants privilege role → bytes_eq role owner ≡ false → has_option privilege (Grantee.Role role) grants ≡ true
has_if_holds owner grants privilege role Owner isnt = absurd (true≢false (sym (bytes_own owner) ∙ isnt))
has_if_holds owner grants privilege role (Granted grantor grantee holds is) isnt =
    any_weaker (from privilege grantor grantee) (λ grant. grant.option && is_to privilege (Grantee.Role grantee) grant) (from_is_option privilege grantor grantee) grants (sym (optioned_is grants privilege grantor grantee) ∙ is)

-- so a grant tells it of each role but the owner
pub held_by_grant : (owner role : List ℕ) (grants : List Grant) (privilege : Privilege) → HaveGrantors owner grants → bytes_eq role owner ≡ false
    → has_option privilege (Grantee.Role role) grants ≡ one_of (holders_of owner grants privilege) role
held_by_grant owner role grants privilege have isnt =
    same_truth (has_option privilege (Grantee.Role role) grants) (one_of (holders_of owner grants privilege) role)
    (λ has. (holders_are owner grants privilege role).1 (given owner grants privilege role (is_from owner grants grants privilege role have has)))
    (λ holds. has_if_holds owner grants privilege role ((holders_are owner grants privilege role).0 holds) isnt)

pub grantor_holds : (owner : List ℕ) (grants : List Grant) (privilege : Privilege) (role : List ℕ) → one_of (holders_of owner grants privilege) role ≡ true → Options owner grants privilege role
grantor_holds owner grants privilege role is = (holders_are owner grants privilege role).0 is

first_and_others : (grants : List Grant) (grant : Grant) → 1 ≤ length grants → grant ≡ get_or grants 0 grant → grant ∷ take (length grants - 1) (drop 1 grants) ≡ grants
first_and_others [] grant some is = absurd (omega (arith, some))
first_and_others (x ∷ grants) grant some is = ap (λ g. g ∷ take (length (x ∷ grants) - 1) grants) is ∙ ap (λ rest. x ∷ rest) (take_all (length (x ∷ grants) - 1) grants (omega arith))

-- where the first one's grantor holds it, the others tell whether all do
pub held_others : (owner : List ℕ) (all whole these : List Grant) (grant : Grant) → 1 ≤ length these → grant ≡ get_or these 0 grant → (GrantorsHold owner all these → GrantorsHold owner all whole)
    → one_of (holders_of owner all grant.privilege) grant.grantor ≡ true → GrantorsHold owner all (take (length these - 1) (drop 1 these)) → GrantorsHold owner all whole
held_others owner all whole these grant some is tells holds rest =
    tells (subst (GrantorsHold owner all) (first_and_others these grant some is) (grantor_holds owner all grant.privilege grant.grantor holds, rest))

-- ---- without the options of one that has none

holders_same : (owner : List ℕ) (grants others : List Grant) (privilege : Privilege)
    → ((grantor role : List ℕ) → list_any (from privilege grantor role) grants ≡ list_any (from privilege grantor role) others)
    → (role : List ℕ) → one_of (holders_of owner grants privilege) role ≡ one_of (holders_of owner others privilege) role
holders_same owner grants others privilege same role =
    same_truth (one_of (holders_of owner grants privilege) role) (one_of (holders_of owner others privilege) role)
    (λ is. (holders_are owner others privilege role).1 (moved grants others same role ((holders_are owner grants privilege role).0 is)))
    (λ is. (holders_are owner grants privilege role).1 (moved others grants (λ grantor name. sym (same grantor name)) role ((holders_are owner others privilege role).0 is)))
  where
    moved : (here there : List Grant) → ((grantor role : List ℕ) → list_any (from privilege grantor role) here ≡ list_any (from privilege grantor role) there)
        → (role : List ℕ) → Options owner here privilege role → Options owner there privilege role
    moved here there same role Owner = Owner
    moved here there same role (Granted grantor grantee holds is) =
        Granted grantor grantee (moved here there same grantor holds) (optioned_is there privilege grantor grantee ∙ sym (same grantor grantee) ∙ sym (optioned_is here privilege grantor grantee) ∙ is)

no_option : (o s t r : Bool) → (o && (s && true)) ≡ false → false ≡ ((o && (s && t)) && r)
no_option true true t r none = absurd (true≢false none)
no_option true false t r none = refl
no_option false s t r none = refl

one_without : (b : Bool) (privilege : Privilege) (grantee grantor role : List ℕ) (grant : Grant) → is_same_grantee grant.grantee (Grantee.Role grantee) ≡ b
    → (grant.option && is_to privilege (Grantee.Role grantee) grant) ≡ false
    → from privilege grantor role (if b then not_grantable grant else grant) ≡ from privilege grantor role grant
one_without true privilege grantee grantor role grant same none =
    no_option grant.option (is_same_privilege grant.privilege privilege) (bytes_eq grant.grantor grantor) (is_same_grantee grant.grantee (Grantee.Role role))
    ((λ i. grant.option && (is_same_privilege grant.privilege privilege && sym same i)) ∙ none)
one_without false privilege grantee grantor role grant same none = refl

without_same : (privilege : Privilege) (grantee grantor role : List ℕ) (grants : List Grant) → has_option privilege (Grantee.Role grantee) grants ≡ false
    → list_any (from privilege grantor role) (without_options_of grantee grants) ≡ list_any (from privilege grantor role) grants
without_same privilege grantee grantor role [] none = refl
without_same privilege grantee grantor role (grant ∷ grants) none = λ i.
    one_without (is_same_grantee grant.grantee (Grantee.Role grantee)) privilege grantee grantor role grant refl (first_none (grant.option && is_to privilege (Grantee.Role grantee) grant) (has_option privilege (Grantee.Role grantee) grants) none) i
    || without_same privilege grantee grantor role grants (last_none (grant.option && is_to privilege (Grantee.Role grantee) grant) (has_option privilege (Grantee.Role grantee) grants) none) i

-- where a grantee has no option, the same hold it without
pub held_without : (owner grantee role : List ℕ) (grants : List Grant) (privilege : Privilege) → has_option privilege (Grantee.Role grantee) grants ≡ false
    → one_of (holders_of owner grants privilege) role ≡ one_of (holders_of owner (without_options_of grantee grants) privilege) role
held_without owner grantee role grants privilege none =
    holders_same owner grants (without_options_of grantee grants) privilege (λ grantor name. sym (without_same privilege grantee grantor name grants none)) role

-- ---- GRANT

grown_option : (o p r s : Bool) → ((o && r) && s) ≡ true → (((o || p) && r) && s) ≡ true
grown_option true p r s is = is
grown_option false p r s is = no_true is

one_grown : (b : Bool) (new grant : Grant) (privilege : Privilege) (grantor role : List ℕ) → from privilege grantor role grant ≡ true
    → from privilege grantor role (if b then record grant { option = grant.option || new.option } else grant) ≡ true
one_grown true new grant privilege grantor role is =
    grown_option grant.option new.option (is_same_privilege grant.privilege privilege && bytes_eq grant.grantor grantor) (is_same_grantee grant.grantee (Grantee.Role role)) is
one_grown false new grant privilege grantor role is = is

more_mapped : (new : Grant) (grants : List Grant) → NoFewer grants (map (with_grant_option new) grants)
more_mapped new grants privilege grantor role is = any_mapped (from privilege grantor role) (with_grant_option new) (λ grant here. one_grown _ new grant privilege grantor role here) grants is

more_put : (new : Grant) (n : ℕ) (grants : List Grant) → NoFewer grants (take n grants ++ new ∷ drop n grants)
more_put new n grants privilege grantor role is = any_put (from privilege grantor role) new n grants is

grantor_kept : (b : Bool) (owner : List ℕ) (all : List Grant) (new grant : Grant) → Options owner all grant.privilege grant.grantor
    → Options owner all (if b then record grant { option = grant.option || new.option } else grant).privilege (if b then record grant { option = grant.option || new.option } else grant).grantor
grantor_kept true owner all new grant holds = holds
grantor_kept false owner all new grant holds = holds

hold_mapped : (owner : List ℕ) (all : List Grant) (new : Grant) (grants : List Grant) → GrantorsHold owner all grants → GrantorsHold owner all (map (with_grant_option new) grants)
hold_mapped owner all new [] hold = tt
hold_mapped owner all new (grant ∷ grants) hold = (grantor_kept _ owner all new grant hold.0, hold_mapped owner all new grants hold.1)

hold_put : (owner : List ℕ) (all : List Grant) (new : Grant) (n : ℕ) (grants : List Grant) → Options owner all new.privilege new.grantor → GrantorsHold owner all grants
    → GrantorsHold owner all (take n grants ++ new ∷ drop n grants)
hold_put owner all new zero grants holds hold = (holds, hold)
hold_put owner all new (suc n) [] holds hold = (holds, tt)
hold_put owner all new (suc n) (grant ∷ grants) holds hold = (hold.0, hold_put owner all new n grants holds hold.1)

abbrev place : List Grant → Grant → ℕ
place grants new = position_or_len (λ other. is_lt (grant_order new other)) grants

more_if : (b : Bool) (grants : List Grant) (new : Grant) → NoFewer grants (if b then map (with_grant_option new) grants else put_before (λ other. is_lt (grant_order new other)) new grants)
more_if true grants new = more_mapped new grants
more_if false grants new = more_put new (place grants new) grants

grown_if : (b : Bool) (owner : List ℕ) (all grants : List Grant) (new : Grant) → Options owner all new.privilege new.grantor → GrantorsHold owner all grants
    → GrantorsHold owner all (if b then map (with_grant_option new) grants else put_before (λ other. is_lt (grant_order new other)) new grants)
grown_if true owner all grants new holds hold = hold_mapped owner all new grants hold
grown_if false owner all grants new holds hold = hold_put owner all new (place grants new) grants holds hold

grown : (owner : List ℕ) (grants : List Grant) (new : Grant) → HaveGrantors owner grants → Options owner grants new.privilege new.grantor → HaveGrantors owner (with_grant grants new)
grown owner grants new have holds =
    let more : NoFewer grants (with_grant grants new) = more_if (is_there grants new) grants new in
    grown_if (is_there grants new) owner (with_grant grants new) grants new (options_more owner grants (with_grant grants new) more new.privilege new.grantor holds) (hold_more owner grants (with_grant grants new) grants more have)

-- new grants by those who hold it leave it so
pub all_grown : (owner : List ℕ) (grants new : List Grant) → HaveGrantors owner grants → GrantorsHold owner grants new → HaveGrantors owner (with_grants grants new)
all_grown owner grants [] have hold = have
all_grown owner grants (one ∷ new) have hold =
    all_grown owner (with_grant grants one) new (grown owner grants one have hold.0) (hold_more owner grants (with_grant grants one) new (more_if (is_there grants one) grants one) hold.1)

-- ---- looked over

stay_is : (b d : Bool) {P : Type 0} → (d ≡ true → P) → not (not b || d) ≡ false → (b ≡ false) ⊎ P
stay_is true true p kept = inr (p refl)
stay_is true false p kept = absurd (true≢false kept)
stay_is false d p kept = inl refl

each_stays_by : (owner : List ℕ) (all : List Grant) (privilege : Privilege) (holders : BTreeSet (List ℕ)) → AreHolders owner all privilege holders → (grants : List Grant)
    → list_any (λ grant. not (stays (contains name_order holders) privilege grant)) grants ≡ false → AllByRecursion (MayStay owner all privilege) grants
each_stays_by owner all privilege holders are [] none = tt
each_stays_by owner all privilege holders are (grant ∷ grants) none = (
  stay_is (is_same_privilege grant.privilege privilege) (contains name_order holders grant.grantor) (λ is. (are grant.grantor).0 is)
      (first_none (not (stays (contains name_order holders) privilege grant)) (list_any (λ grant. not (stays (contains name_order holders) privilege grant)) grants) none),
  each_stays_by owner all privilege holders are grants (last_none (not (stays (contains name_order holders) privilege grant)) (list_any (λ grant. not (stays (contains name_order holders) privilege grant)) grants) none),
)

isnt_loose : (b : Bool) → not b ≡ true → b ≡ false
isnt_loose true is = absurd (true≢false (sym is))
isnt_loose false is = refl

pub each_stays : (owner : List ℕ) (grants : List Grant) (privilege : Privilege) (holders : BTreeSet (List ℕ)) → AreHolders owner grants privilege holders
    → not (list_any (λ grant. not (stays (contains name_order holders) privilege grant)) grants) ≡ true → AllByRecursion (MayStay owner grants privilege) grants
each_stays owner grants privilege holders are none = each_stays_by owner grants privilege holders are grants (isnt_loose _ none)

own_grantor : (owner : List ℕ) (all : List Grant) (p : Privilege) (grantor : List ℕ) → (is_same_privilege p p ≡ false) ⊎ Options owner all p grantor → Options owner all p grantor
own_grantor owner all p grantor (inl never) = absurd (true≢false (sym (same_itself p) ∙ never))
own_grantor owner all p grantor (inr holds) = holds

by_privilege : (owner : List ℕ) (all : List Grant) (p : Privilege) (grantor : List ℕ)
    → ((is_same_privilege p Privilege.Select ≡ false) ⊎ Options owner all Privilege.Select grantor) → ((is_same_privilege p Privilege.Insert ≡ false) ⊎ Options owner all Privilege.Insert grantor)
    → ((is_same_privilege p Privilege.Update ≡ false) ⊎ Options owner all Privilege.Update grantor) → ((is_same_privilege p Privilege.Delete ≡ false) ⊎ Options owner all Privilege.Delete grantor)
    → Options owner all p grantor
by_privilege owner all Privilege.Select grantor select insert update delete = own_grantor owner all Privilege.Select grantor select
by_privilege owner all Privilege.Insert grantor select insert update delete = own_grantor owner all Privilege.Insert grantor insert
by_privilege owner all Privilege.Update grantor select insert update delete = own_grantor owner all Privilege.Update grantor update
by_privilege owner all Privilege.Delete grantor select insert update delete = own_grantor owner all Privilege.Delete grantor delete

four_by : (owner : List ℕ) (all grants : List Grant) → AllByRecursion (MayStay owner all Privilege.Select) grants → AllByRecursion (MayStay owner all Privilege.Insert) grants
    → AllByRecursion (MayStay owner all Privilege.Update) grants → AllByRecursion (MayStay owner all Privilege.Delete) grants → GrantorsHold owner all grants
four_by owner all [] select insert update delete = tt
four_by owner all (grant ∷ grants) select insert update delete =
    (by_privilege owner all grant.privilege grant.grantor select.0 insert.0 update.0 delete.0, four_by owner all grants select.1 insert.1 update.1 delete.1)

pub four_hold : (owner : List ℕ) (grants : List Grant) → AllByRecursion (MayStay owner grants Privilege.Select) grants → AllByRecursion (MayStay owner grants Privilege.Insert) grants
    → AllByRecursion (MayStay owner grants Privilege.Update) grants → AllByRecursion (MayStay owner grants Privilege.Delete) grants → HaveGrantors owner grants
four_hold owner grants select insert update delete = four_by owner grants grants select insert update delete

-- ---- REVOKE of grants without option

hold_kept_if : (b : Bool) (owner : List ℕ) (all : List Grant) (grant : Grant) (left : List Grant) → Options owner all grant.privilege grant.grantor → GrantorsHold owner all left
    → GrantorsHold owner all (cond b (grant ∷ left) left)
hold_kept_if true owner all grant left holds hold = (holds, hold)
hold_kept_if false owner all grant left holds hold = hold

hold_kept : (owner : List ℕ) (all : List Grant) (keep : Grant → Bool) (grants : List Grant) → GrantorsHold owner all grants → GrantorsHold owner all (filter keep grants)
hold_kept owner all keep [] hold = tt
hold_kept owner all keep (grant ∷ grants) hold = hold_kept_if (keep grant) owner all grant (filter keep grants) hold.0 (hold_kept owner all keep grants hold.1)

kept_if : (b : Bool) (privilege : Privilege) (grantor role : List ℕ) (grant : Grant) (left : List Grant) → (grant.option && b) ≡ false → from privilege grantor role grant ≡ true
    → list_any (from privilege grantor role) (cond (not b) (grant ∷ left) left) ≡ true
kept_if true privilege grantor role grant left none is =
    absurd (true≢false (sym (first_of grant.option (is_same_privilege grant.privilege privilege && bytes_eq grant.grantor grantor) (first_of (is_option_by privilege grantor grant) (is_same_grantee grant.grantee (Grantee.Role role)) is))
    ∙ sym (and_true grant.option) ∙ none))
  where
    and_true : (o : Bool) → (o && true) ≡ o
    and_true true = refl
    and_true false = refl
kept_if false privilege grantor role grant left none is = or_left (from privilege grantor role grant) (list_any (from privilege grantor role) left) is

kept_more : (b : Bool) (privilege : Privilege) (grantor role : List ℕ) (grant : Grant) (left : List Grant) → list_any (from privilege grantor role) left ≡ true
    → list_any (from privilege grantor role) (cond b (grant ∷ left) left) ≡ true
kept_more true privilege grantor role grant left is = or_right (from privilege grantor role grant) (list_any (from privilege grantor role) left) is
kept_more false privilege grantor role grant left is = is

no_fewer_kept : (taken : Grant → Bool) (grants : List Grant) → list_any (λ grant. grant.option && taken grant) grants ≡ false → NoFewer grants (filter (λ grant. not (taken grant)) grants)
no_fewer_kept taken [] none privilege grantor role is = is
no_fewer_kept taken (grant ∷ grants) none privilege grantor role is =
    or_either (from privilege grantor role grant) (list_any (from privilege grantor role) grants) is
    (λ here. kept_if (taken grant) privilege grantor role grant (filter (λ grant. not (taken grant)) grants) (first_none (grant.option && taken grant) (list_any (λ grant. grant.option && taken grant) grants) none) here)
    (λ there. kept_more (not (taken grant)) privilege grantor role grant (filter (λ grant. not (taken grant)) grants)
    (no_fewer_kept taken grants (last_none (grant.option && taken grant) (list_any (λ grant. grant.option && taken grant) grants) none) privilege grantor role there))

option_stays : (b : Bool) (grant : Grant) → (grant.option && b) ≡ false → (if b then not_grantable grant else grant) ≡ grant
option_stays true grant none = λ i. record grant { option = (sym none ∙ and_true grant.option) i }
  where
    and_true : (o : Bool) → (o && true) ≡ o
    and_true true = refl
    and_true false = refl
option_stays false grant none = refl

options_stay : (asked : RevokePrivileges) (by : List Grantor) (grants : List Grant) → list_any (λ grant. grant.option && is_taken asked by grant) grants ≡ false → map (without_grant_option asked by) grants ≡ grants
options_stay asked by [] none = refl
options_stay asked by (grant ∷ grants) none = λ i.
    option_stays (is_taken asked by grant) grant (first_none (grant.option && is_taken asked by grant) (list_any (λ grant. grant.option && is_taken asked by grant) grants) none) i
    ∷ options_stay asked by grants (last_none (grant.option && is_taken asked by grant) (list_any (λ grant. grant.option && is_taken asked by grant) grants) none) i

rest_if : (b : Bool) (owner : List ℕ) (grants : List Grant) (by : List Grantor) (asked : RevokePrivileges) → HaveGrantors owner grants → list_any (λ grant. grant.option && is_taken asked by grant) grants ≡ false
    → HaveGrantors owner (if b then map (without_grant_option asked by) grants else filter (λ grant. not (is_taken asked by grant)) grants)
rest_if true owner grants by asked have none = subst (HaveGrantors owner) (sym (options_stay asked by grants none)) have
rest_if false owner grants by asked have none =
    let left : List Grant = filter (λ grant. not (is_taken asked by grant)) grants in
    hold_kept owner left (λ grant. not (is_taken asked by grant)) grants (hold_more owner grants left grants (no_fewer_kept (is_taken asked by) grants none) have)

-- what is left still has grantors who hold it, where nobody loses an option
pub rest_untaken : (owner : List ℕ) (grants rest : List Grant) (by : List Grantor) (asked : RevokePrivileges) → HaveGrantors owner grants → list_any (λ grant. grant.option && is_taken asked by grant) grants ≡ false
    → rest ≡ without_taken asked by grants → HaveGrantors owner rest
rest_untaken owner grants rest by asked have none is = subst (HaveGrantors owner) (sym is) (rest_if asked.option_only owner grants by asked have none)

none_loose : (owner : List ℕ) (all : List Grant) (privilege : Privilege) (grants : List Grant) → GrantorsHold owner all grants
    → list_any (λ grant. not (stays (one_of (holders_of owner all privilege)) privilege grant)) grants ≡ false
none_loose owner all privilege [] hold = refl
none_loose owner all privilege (grant ∷ grants) hold =
    none_of_both (not (stays (one_of (holders_of owner all privilege)) privilege grant)) (list_any (λ grant. not (stays (one_of (holders_of owner all privilege)) privilege grant)) grants)
    (go (is_same_privilege grant.privilege privilege) refl) (none_loose owner all privilege grants hold.1)
  where
    go : (b : Bool) → is_same_privilege grant.privilege privilege ≡ b → not (not b || one_of (holders_of owner all privilege) grant.grantor) ≡ false
    go true same = ap not ((holders_are owner all privilege grant.grantor).1 (subst (λ p. Options owner all p grant.grantor) (privilege_is grant.privilege privilege same) hold.0))
    go false same = refl

all_stay : (cascade : Bool) (table owner : List ℕ) (privilege : Privilege) (grants : List Grant) → HaveGrantors owner grants
    → left_or_refused cascade table privilege (one_of (holders_of owner grants privilege)) grants ≡ Ok grants
all_stay true table owner privilege grants have = ap (λ left. Ok left) (all_left (stays (one_of (holders_of owner grants privilege)) privilege) grants (none_loose owner grants privilege grants have))
all_stay false table owner privilege grants have =
    ap (λ loose. if loose then Err (Dependent table) else Ok grants) (none_loose owner grants privilege grants have)

-- then nothing hangs on what was taken
pub nothing_hangs : (cascade : Bool) (table owner : List ℕ) (by : List Grantor) (grants : List Grant) → HaveGrantors owner grants → left_after cascade table owner by grants ≡ Ok grants
nothing_hangs cascade table owner [] grants have = refl
nothing_hangs cascade table owner (grantor ∷ by) grants have =
    ap (λ first. and_then first (λ left. left_after cascade table owner by left)) (all_stay cascade table owner grantor.privilege grants have) ∙ nothing_hangs cascade table owner by grants have
