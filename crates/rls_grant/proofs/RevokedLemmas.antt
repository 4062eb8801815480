-- What REVOKE takes is looked for among the grants of each privilege to each grantee, by the keys where they stand.
use Rattle.std.specs.Prelude.{◌≡◌, refl, ℕ, List, [], ◌∷◌, Bool, true, false, ◌&&◌, ◌||◌, not, cond, if◌then◌else◌, filter, map}
use Rattle.std.specs.List.{AllByRecursion, fold, list_any}
use Rattle.std.specs.List.Sorted.{IsStrictlySortedBy}
use Rattle.std.specs.Ordering.{is_le}
use Rattle.std.proofs.Common.{sym, ap, ◌∙◌}
use Rattle.std.proofs.lemmas.Bool.{true≢false, or_left, or_right}
use Rattle.rls_value.specs.declared.verb.Privilege.{Privilege}
use Rattle.rls_verdict.specs.rls_expr.specs.declared.policy.Grantee.{Grantee}
use Rattle.rls_verdict.specs.rls_catalog.specs.declared.grant.Grant.{Grant}
use Rattle.rls_verdict.specs.rls_catalog.specs.GrantKeys.{first_key, key_of, key_order}
use Rattle.rls_verdict.specs.rls_catalog.specs.GrantOptions.{HaveGrantors, is_grant_of, is_same_grantee}
use Rattle.rls_verdict.specs.rls_catalog.specs.Privileges.{is_same_privilege}
use Rattle.rls_role.specs.shared_map.specs.Entries.{is_reached}
use Rattle.rls_role.specs.shared_map.specs.Lists.{InKeyOrder, items_from}
use Rattle.rls_role.specs.rls_statement.specs.declared.statement.RevokePrivileges.{RevokePrivileges}
use Rattle.rls_role.specs.rls_statement.specs.Extents.{extent_of, takes_from}
use Rattle.rls_grant.specs.{declared.grantors.Grantor.Grantor, GrantedTo.first_to, GrantedTo.is_to, Placing.without_each, Placing.without_grant}
use Rattle.rls_grant.specs.Revoking.{is_by, is_one, is_taken, takes_option, takes_option_by, takes_option_of, without_by, without_from, without_taken}
use Rattle.rls_grant.proofs.GrantPlaces.{each_left, left_at}
use Rattle.rls_grant.proofs.KnownLemmas.{any_weaker, both_true, first_of, last_of, none_of_both, rest_untaken}
use Rattle.rls_grant.proofs.SideBySide.{all_reached, none_further, not_reached}

-- ---- of one grantor, to one grantee

-- those that stay are left
all_stay : (keep : Grant → Bool) (grants others : List Grant) → AllByRecursion (λ grant. keep grant ≡ true) others → without_each keep grants others ≡ grants
all_stay keep grants [] stay = refl
all_stay keep grants (grant ∷ others) stay =
    ap (λ b. without_each keep (if b then grants else without_grant grants grant) others) stay.0 ∙ all_stay keep grants others stay.1

as_fold : (keep : Grant → Bool) (grants others : List Grant) → without_each keep grants others ≡ fold (left_at keep) grants others
as_fold keep grants [] = refl
as_fold keep grants (grant ∷ others) = as_fold keep (if keep grant then grants else without_grant grants grant) others

all_weaker : (p q : Grant → Type 0) → ((grant : Grant) → p grant → q grant) → (grants : List Grant) → AllByRecursion p grants → AllByRecursion q grants
all_weaker p q weaker [] all = tt
all_weaker p q weaker (grant ∷ grants) all = (weaker grant all.0, all_weaker p q weaker grants all.1)

module _ (privilege : Privilege) (grantee : Grantee) (keep : Grant → Bool) (others_stay : (grant : Grant) → is_to privilege grantee grant ≡ false → keep grant ≡ true) where
  -- past the first ones none goes
  first_are : (grants these : List Grant) → InKeyOrder key_order key_of these → AllByRecursion (λ grant. is_le (key_order (first_key privilege grantee) (key_of grant)) ≡ true) these
      → without_each keep grants (first_to privilege grantee these) ≡ without_each keep grants these
  unfolding IsStrictlySortedBy
  first_are grants [] order is = refl
  first_are grants (grant ∷ these) order is =
      (elim (is_to privilege grantee grant) as (λ b. is_to privilege grantee grant ≡ b → without_each keep grants (if b then grant ∷ first_to privilege grantee these else []) ≡ without_each keep grants (grant ∷ these)) [
        | true ↦ λ b. first_are (if keep grant then grants else without_grant grants grant) these order.1 is.1
        | false ↦ λ b. sym (all_stay keep grants (grant ∷ these) (all_weaker (λ grant. is_to privilege grantee grant ≡ false) (λ grant. keep grant ≡ true) others_stay (grant ∷ these) (none_further privilege grantee grant these order is.0 b)))
      ]) refl

  -- before them none goes
  from_first : (grants these : List Grant) → InKeyOrder key_order key_of these
      → without_each keep grants (first_to privilege grantee (items_from (is_reached (key_order (first_key privilege grantee)) false) key_of these)) ≡ without_each keep grants these
  unfolding IsStrictlySortedBy
  from_first grants [] order = refl
  from_first grants (grant ∷ these) order =
      (elim (is_le (key_order (first_key privilege grantee) (key_of grant))) as (λ b. is_le (key_order (first_key privilege grantee) (key_of grant)) ≡ b
      → without_each keep grants (first_to privilege grantee (cond b (grant ∷ these) (items_from (is_reached (key_order (first_key privilege grantee)) false) key_of these))) ≡ without_each keep grants (grant ∷ these)) [
        | true ↦ λ b. first_are grants (grant ∷ these) order (b, all_reached privilege grantee grant these b order.0)
        | false ↦ λ b. from_first grants these order.1
            ∙ sym (ap (λ stays. without_each keep (if stays then grants else without_grant grants grant) these) (others_stay grant (not_reached privilege grantee grant b)))
      ]) refl

  -- so what is taken from the grants, looked for by keys, is all that goes
  pub first_left : (grants : List Grant) → InKeyOrder key_order key_of grants
      → without_each keep grants (first_to privilege grantee (items_from (is_reached (key_order (first_key privilege grantee)) false) key_of grants)) ≡ filter keep grants
  first_left grants order = from_first grants grants order ∙ as_fold keep grants grants ∙ each_left keep grants order

not_both : (a b c d : Bool) → (a && b) ≡ false → not (c && (a && (b && d))) ≡ true
not_both true true c d isnt = absurd (true≢false isnt)
not_both true false true d isnt = refl
not_both true false false d isnt = refl
not_both false b true d isnt = refl
not_both false b false d isnt = refl

-- no grant to another is one of these
pub others_stay : (asked : RevokePrivileges) (grantor : Grantor) (grantee : Grantee) (grant : Grant) → is_to grantor.privilege grantee grant ≡ false → not (is_one asked grantor grantee grant) ≡ true
others_stay asked grantor grantee grant isnt =
    not_both (is_same_privilege grant.privilege grantor.privilege) (is_same_grantee grant.grantee grantee) (takes_from (extent_of asked.privileges grantor.privilege) grant.column) _ isnt

-- ---- one after another

all_kept : (grants : List Grant) → grants ≡ filter (λ grant. true) grants
all_kept [] = refl
all_kept (grant ∷ grants) = ap (λ rest. grant ∷ rest) (all_kept grants)

both_if : (a b : Bool) (q : Grant → Bool) (grant : Grant) (kept both : List Grant) → q grant ≡ b → filter (λ grant. not (q grant)) kept ≡ both
    → filter (λ grant. not (q grant)) (cond (not a) (grant ∷ kept) kept) ≡ cond (not (a || b)) (grant ∷ both) both
both_if true b q grant kept both is same = same
both_if false true q grant kept both is same = ap (λ c. cond (not c) (grant ∷ filter (λ grant. not (q grant)) kept) (filter (λ grant. not (q grant)) kept)) is ∙ same
both_if false false q grant kept both is same =
    ap (λ c. cond (not c) (grant ∷ filter (λ grant. not (q grant)) kept) (filter (λ grant. not (q grant)) kept)) is ∙ ap (λ rest. grant ∷ rest) same

filter_both : (p q : Grant → Bool) (grants : List Grant) → filter (λ grant. not (q grant)) (filter (λ grant. not (p grant)) grants) ≡ filter (λ grant. not (p grant || q grant)) grants
filter_both p q [] = refl
filter_both p q (grant ∷ grants) =
    both_if (p grant) (q grant) q grant (filter (λ grant. not (p grant)) grants) (filter (λ grant. not (p grant || q grant)) grants) refl (filter_both p q grants)

and_any : {X : Type 0} (b : Bool) (p : X → Bool) (xs : List X) → list_any (λ x. b && p x) xs ≡ (b && list_any p xs)
and_any true p [] = refl
and_any true p (x ∷ xs) = ap (λ any. p x || any) (and_any true p xs)
and_any false p [] = refl
and_any false p (x ∷ xs) = and_any false p xs

from_all : (asked : RevokePrivileges) (grantor : Grantor) (from : List Grantee) (grants : List Grant)
    → without_from asked grantor from grants ≡ filter (λ grant. not (list_any (λ grantee. is_one asked grantor grantee grant) from)) grants
from_all asked grantor [] grants = all_kept grants
from_all asked grantor (grantee ∷ from) grants =
    from_all asked grantor from (filter (λ grant. not (is_one asked grantor grantee grant)) grants)
    ∙ filter_both (is_one asked grantor grantee) (λ grant. list_any (λ grantee. is_one asked grantor grantee grant) from) grants

by_one : (asked : RevokePrivileges) (grantor : Grantor) (grant : Grant) → list_any (λ grantee. is_one asked grantor grantee grant) asked.from ≡ is_by asked grant grantor
by_one asked grantor grant = and_any (takes_from (extent_of asked.privileges grantor.privilege) grant.column) (λ grantee. is_grant_of grantor.privilege grantee grantor.name grant) asked.from

-- all that is the grantor's is dropped
pub dropped_of_one : (asked : RevokePrivileges) (grantor : Grantor) (grants : List Grant) → without_from asked grantor asked.from grants ≡ filter (λ grant. not (is_by asked grant grantor)) grants
dropped_of_one asked grantor grants = from_all asked grantor asked.from grants ∙ (λ i. filter (λ grant. not (by_one asked grantor grant i)) grants)

-- all that is taken is
pub dropped_of_all : (asked : RevokePrivileges) (by : List Grantor) (grants : List Grant) → without_by asked by grants ≡ filter (λ grant. not (is_taken asked by grant)) grants
dropped_of_all asked [] grants = all_kept grants
dropped_of_all asked (grantor ∷ by) grants =
    dropped_of_all asked by (filter (λ grant. not (is_by asked grant grantor)) grants) ∙ filter_both (λ grant. is_by asked grant grantor) (is_taken asked by) grants

-- ---- options that are taken

-- what holds of the grant some grant of the list passes
abbrev Among : List Grant → Grant → Type 0
Among grants grant = (p : Grant → Bool) → p grant ≡ true → list_any p grants ≡ true

among_all : (grants : List Grant) → AllByRecursion (Among grants) grants
among_all [] = tt
among_all (grant ∷ grants) = (
  (λ p is. or_left (p grant) (list_any p grants) is),
  all_weaker (Among grants) (Among (grant ∷ grants)) (λ other among p is. or_right (p grant) (list_any p grants) (among p is)) grants (among_all grants),
)

one_is_to : (asked : RevokePrivileges) (grantor : Grantor) (grantee : Grantee) (grant : Grant) → is_one asked grantor grantee grant ≡ true → is_to grantor.privilege grantee grant ≡ true
one_is_to asked grantor grantee grant is =
    let of : is_grant_of grantor.privilege grantee grantor.name grant ≡ true = last_of (takes_from (extent_of asked.privileges grantor.privilege) grant.column) (is_grant_of grantor.privilege grantee grantor.name grant) is in
    both_true (is_same_privilege grant.privilege grantor.privilege) (is_same_grantee grant.grantee grantee)
    (first_of (is_same_privilege grant.privilege grantor.privilege) _ of)
    (first_of (is_same_grantee grant.grantee grantee) _ (last_of (is_same_privilege grant.privilege grantor.privilege) _ of))

some_taken : (asked : RevokePrivileges) (by : List Grantor) (grants : List Grant) (grant : Grant) → Among grants grant → grant.option ≡ true → is_taken asked by grant ≡ true → takes_option asked by grants ≡ true
some_taken asked by grants grant among option taken =
    any_weaker (is_by asked grant) (takes_option_by asked grants)
    (λ grantor is. any_weaker (λ grantee. is_one asked grantor grantee grant) (takes_option_of asked grants grantor)
    (λ grantee one. among (λ other. (other.option && is_one asked grantor grantee other) && is_to grantor.privilege grantee other)
    (both_true (grant.option && is_one asked grantor grantee grant) (is_to grantor.privilege grantee grant) (both_true grant.option (is_one asked grantor grantee grant) option one) (one_is_to asked grantor grantee grant one)))
    asked.from (by_one asked grantor grant ∙ is)) by taken

not_taken : (o t : Bool) → (o ≡ true → t ≡ true → false ≡ true) → (o && t) ≡ false
not_taken true true never = absurd (true≢false (sym (never refl refl)))
not_taken true false never = refl
not_taken false t never = refl

each_untaken : (asked : RevokePrivileges) (by : List Grantor) (grants these : List Grant) → takes_option asked by grants ≡ false → AllByRecursion (Among grants) these
    → list_any (λ grant. grant.option && is_taken asked by grant) these ≡ false
each_untaken asked by grants [] none among = refl
each_untaken asked by grants (grant ∷ these) none among =
    none_of_both (grant.option && is_taken asked by grant) (list_any (λ grant. grant.option && is_taken asked by grant) these)
    (not_taken grant.option (is_taken asked by grant) (λ option taken. sym none ∙ some_taken asked by grants grant among.0 option taken))
    (each_untaken asked by grants these none among.1)

-- where no option is taken, no grant that is taken has one
pub none_taken : (asked : RevokePrivileges) (by : List Grantor) (grants : List Grant) → takes_option asked by grants ≡ false → list_any (λ grant. grant.option && is_taken asked by grant) grants ≡ false
none_taken asked by grants none = each_untaken asked by grants grants none (among_all grants)

-- so each grantor still holds the grant option by what is left
pub rest_known : (owner : List ℕ) (grants rest : List Grant) (by : List Grantor) (asked : RevokePrivileges) → HaveGrantors owner grants → takes_option asked by grants ≡ false
    → rest ≡ without_taken asked by grants → HaveGrantors owner rest
rest_known owner grants rest by asked have none is = rest_untaken owner grants rest by asked have (none_taken asked by grants none) is
