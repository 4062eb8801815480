-- The grants of a privilege to one grantee stand side by side in the list of grants, from the first key on that one can have.
use Rattle.std.specs.Prelude.{◌≡◌, refl, ℕ, List, [], ◌∷◌, Bool, true, false, ◌&&◌, ◌||◌, cond, map}
use Rattle.std.specs.List.{AllByRecursion, list_any}
use Rattle.std.specs.List.Sorted.{IsStrictlySortedBy}
use Rattle.std.specs.Ordering.{is_eq, is_le, nat_cmp, on, ordering_reverse, ordering_then, then_cmp}
use Rattle.std.specs.Option.{option_cmp}
use Rattle.std.specs.Cmp.{IsTotalOrder, tied_then}
use Rattle.std.specs.Cmp.Lexicographic.{options_total}
use Rattle.std.specs.Str.{bytes_eq}
use Rattle.std.specs.declared.cmp.Ordering.{Ordering}
use Rattle.std.specs.declared.cmp.Ordering.TheVariants.{Less, Equal, Greater}
use Rattle.std.proofs.Common.{ap, sym, ◌∙◌}
use Rattle.std.proofs.lemmas.Cmp.{alike_right, nat_cmp_total, nat_list_cmp_total, on_total, then_total}
use Rattle.std.proofs.lemmas.Map.Text.{is_eq-slice_cmp}
use Rattle.rls_value.specs.{Names.one_of, declared.verb.Privilege.Privilege}
use Rattle.rls_verdict.specs.rls_expr.specs.declared.policy.Grantee.{Grantee}
use Rattle.rls_role.specs.shared_map.specs.Entries.{is_reached}
use Rattle.rls_role.specs.shared_map.specs.Lists.{InKeyOrder, items_from}
use Rattle.rls_verdict.specs.rls_catalog.specs.{declared.grant.Grant.Grant, declared.grant.GrantKey.GrantKey, State.name_order, GrantKeys.place_of, GrantKeys.role_of, GrantKeys.key_of, GrantKeys.key_order, GrantKeys.first_key}
use Rattle.rls_verdict.specs.rls_catalog.specs.{Privileges.includes, Privileges.is_same_privilege, Privileges.is_whole, GrantOptions.is_same_grantee}
use Rattle.rls_grant.specs.GrantedTo.{has_whole, is_among_first, is_to}

-- ---- keys by privilege and grantee

abbrev place_order : GrantKey → GrantKey → Ordering
place_order = then_cmp (on (λ key. key.privilege) nat_cmp) (on (λ key. key.grantee) (option_cmp name_order))

place_total : IsTotalOrder place_order
place_total = then_total (on_total (λ key. key.privilege) nat_cmp_total) (on_total (λ key. key.grantee) (options_total nat_list_cmp_total))

abbrev rest_order : GrantKey → GrantKey → Ordering
rest_order key other = ordering_then (option_cmp name_order key.grantor other.grantor) (nat_cmp key.place other.place)

key_total : IsTotalOrder key_order
key_total = then_total (on_total (λ key. key.privilege) nat_cmp_total) (then_total (on_total (λ key. key.grantee) (options_total nat_list_cmp_total)) (then_total (on_total (λ key. key.grantor) (options_total nat_list_cmp_total)) (on_total (λ key. key.place) nat_cmp_total)))

joined_then : (a b c : Ordering) → ordering_then a (ordering_then b c) ≡ ordering_then (ordering_then a b) c
joined_then Less b c = refl
joined_then Equal b c = refl
joined_then Greater b c = refl

by_place : (key other : GrantKey) → key_order key other ≡ ordering_then (place_order key other) (rest_order key other)
by_place key other = joined_then (nat_cmp key.privilege other.privilege) (option_cmp name_order key.grantee other.grantee) (rest_order key other)

-- ---- which keys are of the privilege and the grantee

same_privilege : (privilege other : Privilege) → is_same_privilege other privilege ≡ is_eq (nat_cmp (place_of privilege) (place_of other))
same_privilege Privilege.Select Privilege.Select = refl
same_privilege Privilege.Select Privilege.Insert = refl
same_privilege Privilege.Select Privilege.Update = refl
same_privilege Privilege.Select Privilege.Delete = refl
same_privilege Privilege.Insert Privilege.Select = refl
same_privilege Privilege.Insert Privilege.Insert = refl
same_privilege Privilege.Insert Privilege.Update = refl
same_privilege Privilege.Insert Privilege.Delete = refl
same_privilege Privilege.Update Privilege.Select = refl
same_privilege Privilege.Update Privilege.Insert = refl
same_privilege Privilege.Update Privilege.Update = refl
same_privilege Privilege.Update Privilege.Delete = refl
same_privilege Privilege.Delete Privilege.Select = refl
same_privilege Privilege.Delete Privilege.Insert = refl
same_privilege Privilege.Delete Privilege.Update = refl
same_privilege Privilege.Delete Privilege.Delete = refl

turned_tie : (o : Ordering) → is_eq (ordering_reverse o) ≡ is_eq o
turned_tie Less = refl
turned_tie Equal = refl
turned_tie Greater = refl

same_name : (name other : List ℕ) → bytes_eq other name ≡ is_eq (name_order name other)
same_name name other = sym (is_eq-slice_cmp other name) ∙ ap is_eq (nat_list_cmp_total.antisymm other name) ∙ turned_tie (name_order name other)

same_grantee : (grantee other : Grantee) → is_same_grantee other grantee ≡ is_eq (option_cmp name_order (role_of grantee) (role_of other))
same_grantee Grantee.Public Grantee.Public = refl
same_grantee Grantee.Public (Grantee.Role other) = refl
same_grantee (Grantee.Role name) Grantee.Public = refl
same_grantee (Grantee.Role name) (Grantee.Role other) = same_name name other

both : (a b c d : Bool) → a ≡ c → b ≡ d → (a && b) ≡ (c && d)
both a b c d p q = λ i. p i && q i

tie_reached : (o p : Ordering) → is_eq o ≡ true → is_le p ≡ true → is_le (ordering_then o p) ≡ true
tie_reached Less p tie le = refl
tie_reached Equal p tie le = le
tie_reached Greater p tie le = cc

not_tied : (o p : Ordering) → is_le (ordering_then o p) ≡ true → is_eq o ≡ false → o ≡ Less
not_tied Less p le isnt = refl
not_tied Equal p le isnt = cc
not_tied Greater p le isnt = cc

is_less : (o : Ordering) → o ≡ Less → is_eq o ≡ false
is_less Less less = refl
is_less Equal less = cc
is_less Greater less = cc

module _ (privilege : Privilege) (grantee : Grantee) where
  abbrev first : GrantKey
  first = first_key privilege grantee

  abbrev to : Grant → Bool
  to grant = is_to privilege grantee grant

  abbrev reached : Grant → Bool
  reached grant = is_le (key_order first (key_of grant))

  to_tied : (grant : Grant) → to grant ≡ is_eq (place_order first (key_of grant))
  to_tied grant =
      both (is_same_privilege grant.privilege privilege) (is_same_grantee grant.grantee grantee) (is_eq (nat_cmp (place_of privilege) (place_of grant.privilege))) (is_eq (option_cmp name_order (role_of grantee) (role_of grant.grantee)))
      (same_privilege privilege grant.privilege) (same_grantee grantee grant.grantee)
      ∙ tied_then (nat_cmp (place_of privilege) (place_of grant.privilege)) (option_cmp name_order (role_of grantee) (role_of grant.grantee))

  to_reached : (grant : Grant) → to grant ≡ true → reached grant ≡ true
  to_reached grant is =
      ap is_le (by_place first (key_of grant))
      ∙ tie_reached (place_order first (key_of grant)) (rest_order first (key_of grant)) (sym (to_tied grant) ∙ is) refl

  -- behind a key past the first that isn't of the privilege and the grantee, none is
  past : (key other : GrantKey) → place_order first key ≡ Less → key_order key other ≡ Less → place_order first other ≡ Less
  past key other before less =
      (elim (place_order key other) as (λ o. place_order key other ≡ o → ordering_then o (rest_order key other) ≡ Less → place_order first other ≡ Less) [
        | Less ↦ λ o less. place_total.trans first key other before o
        | Equal ↦ λ o less. sym (alike_right place_total key other first o) ∙ before
        | Greater ↦ λ o less. cc
      ]) refl (sym (by_place key other) ∙ less)

  passed : (grant : Grant) → reached grant ≡ true → to grant ≡ false → place_order first (key_of grant) ≡ Less
  passed grant is isnt = not_tied (place_order first (key_of grant)) (rest_order first (key_of grant)) (sym (ap is_le (by_place first (key_of grant))) ∙ is) (sym (to_tied grant) ∙ isnt)

  no_more : (test : Grant → Bool) (b : Bool) → b ≡ false → (t : Bool) → (t && b) ≡ false
  no_more test b isnt true = isnt
  no_more test b isnt false = refl

  none_behind : (test : Grant → Bool) (key : GrantKey) (grants : List Grant) → place_order first key ≡ Less → AllByRecursion (λ other. key_order key other ≡ Less) (map key_of grants)
      → list_any (λ grant. test grant && to grant) grants ≡ false
  none_behind test key [] before less = refl
  none_behind test key (grant ∷ grants) before less =
      let isnt : to grant ≡ false = to_tied grant ∙ is_less (place_order first (key_of grant)) (past key (key_of grant) before less.0) in
      (λ i. no_more test (to grant) isnt (test grant) i || list_any (λ grant. test grant && to grant) grants)
      ∙ none_behind test key grants before less.1

  none_to : (key : GrantKey) (grants : List Grant) → place_order first key ≡ Less → AllByRecursion (λ other. key_order key other ≡ Less) (map key_of grants) → AllByRecursion (λ grant. to grant ≡ false) grants
  none_to key [] before less = tt
  none_to key (grant ∷ grants) before less =
      (to_tied grant ∙ is_less (place_order first (key_of grant)) (past key (key_of grant) before less.0), none_to key grants before less.1)

  -- behind a grant from the first key on that isn't of the privilege and the grantee, none is
  pub none_further : (grant : Grant) (grants : List Grant) → InKeyOrder key_order key_of (grant ∷ grants) → reached grant ≡ true → to grant ≡ false → AllByRecursion (λ grant. to grant ≡ false) (grant ∷ grants)
  unfolding IsStrictlySortedBy
  none_further grant grants order is isnt = (isnt, none_to (key_of grant) grants (passed grant is isnt) order.0)

  -- behind a key that is reached, each is
  next_reached : (key other : GrantKey) → is_le (key_order first key) ≡ true → key_order key other ≡ Less → is_le (key_order first other) ≡ true
  next_reached key other is less =
      (elim (key_order first key) as (λ o. key_order first key ≡ o → is_le o ≡ true → is_le (key_order first other) ≡ true) [
        | Less ↦ λ o is. ap is_le (key_total.trans first key other o less)
        | Equal ↦ λ o is. ap is_le (key_total.congr first key other o ∙ less)
        | Greater ↦ λ o is. cc
      ]) refl is

  pub all_reached : (grant : Grant) (grants : List Grant) → reached grant ≡ true → AllByRecursion (λ other. key_order (key_of grant) other ≡ Less) (map key_of grants) → AllByRecursion (λ grant. reached grant ≡ true) grants
  all_reached grant [] is less = tt
  all_reached grant (next ∷ grants) is less = (next_reached (key_of grant) (key_of next) is less.0, all_reached grant grants is less.1)

  one_more : (test to among any : Bool) → to ≡ true → among ≡ any → (to && (test || among)) ≡ ((test && to) || any)
  one_more true true among any is same = refl
  one_more false true among any is same = same
  one_more true false among any is same = cc
  one_more false false among any is same = cc

  none_left : (test to among any : Bool) → to ≡ false → any ≡ false → (to && (test || among)) ≡ ((test && to) || any)
  none_left true false among any isnt none = sym none
  none_left false false among any isnt none = sym none
  none_left true true among any isnt none = cc
  none_left false true among any isnt none = cc

  not_this : (test to any : Bool) → to ≡ false → ((test && to) || any) ≡ any
  not_this true false any isnt = refl
  not_this false false any isnt = refl
  not_this true true any isnt = cc
  not_this false true any isnt = cc

  among_is : (test : Grant → Bool) (grants : List Grant) → InKeyOrder key_order key_of grants → AllByRecursion (λ grant. reached grant ≡ true) grants
      → is_among_first test privilege grantee grants ≡ list_any (λ grant. test grant && to grant) grants
  unfolding IsStrictlySortedBy
  among_is test [] order is = refl
  among_is test (grant ∷ grants) order is =
      (elim (to grant) as (λ b. to grant ≡ b → is_among_first test privilege grantee (grant ∷ grants) ≡ list_any (λ grant. test grant && to grant) (grant ∷ grants)) [
        | true ↦ λ b. one_more (test grant) (to grant) (is_among_first test privilege grantee grants) (list_any (λ grant. test grant && to grant) grants) b (among_is test grants order.1 is.1)
        | false ↦ λ b. none_left (test grant) (to grant) (is_among_first test privilege grantee grants) (list_any (λ grant. test grant && to grant) grants) b
            (none_behind test (key_of grant) grants (passed grant is.0 b) order.0)
      ]) refl

  pub not_reached : (grant : Grant) → reached grant ≡ false → to grant ≡ false
  not_reached grant isnt = (elim (to grant) as (λ b. to grant ≡ b → b ≡ false) [ true ↦ λ b. sym (to_reached grant b) ∙ isnt | false ↦ λ b. refl ]) refl

  -- what passes among the first from the first key on is what passes at all
  pub found_among : (test : Grant → Bool) (grants : List Grant) → InKeyOrder key_order key_of grants
      → is_among_first test privilege grantee (items_from (is_reached (key_order first) false) key_of grants) ≡ list_any (λ grant. test grant && to grant) grants
  unfolding IsStrictlySortedBy
  found_among test [] order = refl
  found_among test (grant ∷ grants) order =
      (elim (reached grant) as (λ b. reached grant ≡ b → is_among_first test privilege grantee (cond b (grant ∷ grants) (items_from (is_reached (key_order first) false) key_of grants)) ≡ list_any (λ grant. test grant && to grant) (grant ∷ grants)) [
        | true ↦ λ b. among_is test (grant ∷ grants) order (b, all_reached grant grants b order.0)
        | false ↦ λ b. found_among test grants order.1 ∙ sym (not_this (test grant) (to grant) (list_any (λ grant. test grant && to grant) grants) (not_reached grant b))
      ]) refl

-- ---- for PUBLIC and some roles

grouped : (a b c : Bool) → (a || (b || c)) ≡ ((a || b) || c)
grouped true b c = refl
grouped false b c = refl

regrouped : (p q a b : Bool) → ((p || q) || (a || b)) ≡ ((p || a) || (q || b))
regrouped true q a b = refl
regrouped false true true b = refl
regrouped false true false b = refl
regrouped false false a b = refl

any_or : {X : Type 0} (p q : X → Bool) (xs : List X) → list_any (λ x. p x || q x) xs ≡ (list_any p xs || list_any q xs)
any_or p q [] = refl
any_or p q (x ∷ xs) = ap (λ b. (p x || q x) || b) (any_or p q xs) ∙ regrouped (p x) (q x) (list_any p xs) (list_any q xs)

any_same : {X : Type 0} (p q : X → Bool) (xs : List X) → ((x : X) → p x ≡ q x) → list_any p xs ≡ list_any q xs
any_same p q [] same = refl
any_same p q (x ∷ xs) same = λ i. same x i || any_same p q xs same i

for_public : (grantee : Grantee) → includes false [] grantee ≡ is_same_grantee grantee Grantee.Public
for_public Grantee.Public = refl
for_public (Grantee.Role name) = refl

turned_name : (name other : List ℕ) → bytes_eq name other ≡ bytes_eq other name
turned_name name other = sym (is_eq-slice_cmp name other) ∙ sym (same_name name other)

for_role : (name : List ℕ) (names : List (List ℕ)) (grantee : Grantee) → includes false (name ∷ names) grantee ≡ (is_same_grantee grantee (Grantee.Role name) || includes false names grantee)
for_role name names Grantee.Public = refl
for_role name names (Grantee.Role other) = ap (λ b. b || one_of names other) (turned_name name other)

split : (a b c d : Bool) → (a && (b && (c || d))) ≡ ((a && (b && c)) || (a && (b && d)))
split true true c d = refl
split true false c d = refl
split false b c d = refl

-- a grant of the privilege on the whole table is for PUBLIC, or for one of the roles
pub for_each_grantee : (privilege : Privilege) (grants : List Grant) (names : List (List ℕ))
    → list_any (λ grant. is_whole grant && (is_same_privilege grant.privilege privilege && includes false names grant.grantee)) grants
    ≡ (list_any (λ name. has_whole privilege (Grantee.Role name) grants) names || has_whole privilege Grantee.Public grants)
for_each_grantee privilege grants [] = any_same _ _ grants (λ grant. ap (λ b. is_whole grant && (is_same_privilege grant.privilege privilege && b)) (for_public grant.grantee))
for_each_grantee privilege grants (name ∷ names) =
    any_same _ _ grants (λ grant. ap (λ b. is_whole grant && (is_same_privilege grant.privilege privilege && b)) (for_role name names grant.grantee)
    ∙ split (is_whole grant) (is_same_privilege grant.privilege privilege) (is_same_grantee grant.grantee (Grantee.Role name)) (includes false names grant.grantee))
    ∙ any_or (λ grant. is_whole grant && is_to privilege (Grantee.Role name) grant) (λ grant. is_whole grant && (is_same_privilege grant.privilege privilege && includes false names grant.grantee)) grants
    ∙ ap (λ b. has_whole privilege (Grantee.Role name) grants || b) (for_each_grantee privilege grants names)
    ∙ grouped (has_whole privilege (Grantee.Role name) grants) (list_any (λ name. has_whole privilege (Grantee.Role name) grants) names) (has_whole privilege Grantee.Public grants)

-- what a role that is no superuser is granted, it or a role whose privileges it has or PUBLIC is granted
pub granted_is : (superuser : Bool) (privilege : Privilege) (grants : List Grant) (names : List (List ℕ)) → superuser ≡ false
    → (superuser || list_any (λ grant. is_whole grant && (is_same_privilege grant.privilege privilege && includes superuser names grant.grantee)) grants)
    ≡ (list_any (λ name. has_whole privilege (Grantee.Role name) grants) names || has_whole privilege Grantee.Public grants)
granted_is true privilege grants names is = cc
granted_is false privilege grants names is = for_each_grantee privilege grants names
