-- An index of those to whom each grantor handed the option on, after one grant more.
use Rattle.std.specs.Prelude.{◌≡◌, refl, ℕ, List, [], ◌∷◌, ◌++◌, Option, Some, None, Bool, true, false, ◌&&◌, cond, if◌then◌else◌, filter, IsSome}
use Rattle.std.specs.BTreeMap.{is_at}
use Rattle.std.specs.List.{flat_map}
use Rattle.std.specs.Map.{lookup, set_value}
use Rattle.std.specs.Str.{bytes_eq}
use Rattle.std.proofs.Common.{ap, sym, ◌∙◌, subst, append_assoc}
use Rattle.std.proofs.lemmas.Cmp.{eq_by_cmp_equiv, nat_list_cmp_total}
use Rattle.std.proofs.{lemmas.Map.lookup-set_value, lemmas.Map.Text.is_eq-slice_cmp}
use Rattle.rls_value.specs.declared.verb.Privilege.{Privilege}
use Rattle.rls_verdict.specs.rls_expr.specs.declared.policy.Grantee.{Grantee}
use Rattle.rls_verdict.specs.rls_catalog.specs.{declared.grant.Grant.Grant, State.name_order, State.or_none, Privileges.is_same_privilege, Privileges.is_option_by, Privileges.optioned_by, Privileges.roles_in}
use Rattle.rls_grant.specs.Handed.{handed_to, role_in, under}

-- ---- one entry more

-- an index has the name more under the grantor, and all else as before
abbrev pub Adds : List ℕ → List ℕ → List (List ℕ × List (List ℕ)) → List (List ℕ × List (List ℕ)) → Type 0
Adds grantor grantee index after = (name : List ℕ) → under name after ≡ cond (is_at (name_order grantor) name) (under name index ++ grantee ∷ []) (under name index)

found_alike : (grantor name : List ℕ) (index : List (List ℕ × List (List ℕ))) → is_at (name_order grantor) name ≡ true → lookup (is_at (name_order grantor)) index ≡ lookup (is_at (name_order name)) index
found_alike grantor name index same i = lookup (λ other. (eq_by_cmp_equiv nat_list_cmp_total).congr grantor name other same i) index

added_if : (b : Bool) (grantee : List ℕ) (old : List (List ℕ)) (found : Option (List (List ℕ))) → (b ≡ true → found ≡ Some old)
    → or_none (cond b (Some (old ++ grantee ∷ [])) found) ≡ cond b (or_none found ++ grantee ∷ []) (or_none found)
added_if true grantee old found is = ap (λ stood. or_none stood ++ grantee ∷ []) (sym (is refl))
added_if false grantee old found is = refl

-- a grantee is put behind those under the grantor
pub added : (grantor grantee : List ℕ) (index after : List (List ℕ × List (List ℕ))) (old : List (List ℕ))
    → lookup (is_at (name_order grantor)) index ≡ Some old → after ≡ set_value (is_at (name_order grantor)) index (old ++ grantee ∷ []) → Adds grantor grantee index after
added grantor grantee index after old found set name =
    ap (under name) set
    ∙ ap or_none (lookup-set_value (eq_by_cmp_equiv nat_list_cmp_total) (is_at (name_order grantor)) (λ x y same. (eq_by_cmp_equiv nat_list_cmp_total).congr grantor x y same) name (old ++ grantee ∷ []) index (subst IsSome (sym found) refl))
    ∙ added_if (is_at (name_order grantor) name) grantee old (lookup (is_at (name_order name)) index) (λ same. sym (found_alike grantor name index same) ∙ found)

first_if : (b : Bool) (grantee : List ℕ) (found : Option (List (List ℕ))) → (b ≡ true → found ≡ None)
    → or_none (cond b (Some (grantee ∷ [])) found) ≡ cond b (or_none found ++ grantee ∷ []) (or_none found)
first_if true grantee found is = ap (λ stood. or_none stood ++ grantee ∷ []) (sym (is refl))
first_if false grantee found is = refl

-- a grantee is the first under the grantor
pub added_first : (grantor grantee : List ℕ) (index after : List (List ℕ × List (List ℕ)))
    → lookup (is_at (name_order grantor)) index ≡ None → ((name : List ℕ) → lookup (is_at (name_order name)) after ≡ cond (is_at (name_order grantor) name) (Some (grantee ∷ [])) (lookup (is_at (name_order name)) index))
    → Adds grantor grantee index after
added_first grantor grantee index after absent put name =
    ap or_none (put name) ∙ first_if (is_at (name_order grantor) name) grantee (lookup (is_at (name_order name)) index) (λ same. sym (found_alike grantor name index same) ∙ absent)

-- ---- one grant more

-- the grantee in front of the others, where the grantor is the one
abbrev with_found : Option (List ℕ) → Bool → List (List ℕ) → List (List ℕ)
with_found None same rest = rest
with_found (Some name) same rest = cond same (name ∷ rest) rest

abbrev roles_of : List Grant → List (List ℕ)
roles_of grants = flat_map (λ grant. roles_in grant.grantee) grants

by_tests : (option alike same : Bool) (grantee : Grantee) (grant : Grant) (kept : List Grant) (found : Option (List ℕ)) → grant.grantee ≡ grantee
    → (if option && alike then role_in grantee else None) ≡ found
    → roles_of (cond (option && (alike && same)) (grant ∷ kept) kept) ≡ with_found found same (roles_of kept)
by_tests true true true Grantee.Public grant kept found to is = ap (λ one. roles_in one ++ roles_of kept) to ∙ ap (λ some. with_found some true (roles_of kept)) is
by_tests true true true (Grantee.Role name) grant kept found to is = ap (λ one. roles_in one ++ roles_of kept) to ∙ ap (λ some. with_found some true (roles_of kept)) is
by_tests true true false Grantee.Public grant kept found to is = ap (λ some. with_found some false (roles_of kept)) is
by_tests true true false (Grantee.Role name) grant kept found to is = ap (λ some. with_found some false (roles_of kept)) is
by_tests true false same grantee grant kept found to is = ap (λ some. with_found some same (roles_of kept)) is
by_tests false alike same grantee grant kept found to is = ap (λ some. with_found some same (roles_of kept)) is

optioned_next : (privilege : Privilege) (name : List ℕ) (grant : Grant) (rest : List Grant) (found : Option (List ℕ)) → handed_to privilege grant ≡ found
    → optioned_by (grant ∷ rest) privilege name ≡ with_found found (bytes_eq grant.grantor name) (optioned_by rest privilege name)
optioned_next privilege name grant rest found is =
    by_tests grant.option (is_same_privilege grant.privilege privilege) (bytes_eq grant.grantor name) grant.grantee grant (filter (is_option_by privilege name) rest) found refl is

-- a grant that hands nothing on adds nothing
pub next_skipped : (privilege : Privilege) (name : List ℕ) (grant : Grant) (rest : List Grant) → handed_to privilege grant ≡ None → optioned_by (grant ∷ rest) privilege name ≡ optioned_by rest privilege name
next_skipped privilege name grant rest is = optioned_next privilege name grant rest None is

chosen_if : (b : Bool) (grantee : List ℕ) (before rest : List (List ℕ)) → cond b (before ++ grantee ∷ []) before ++ rest ≡ before ++ cond b (grantee ∷ rest) rest
chosen_if true grantee before rest = append_assoc before (grantee ∷ []) rest
chosen_if false grantee before rest = refl

-- the grantee that is added is the next of those under the grantor
pub next_added : (privilege : Privilege) (name : List ℕ) (grant : Grant) (grantee : List ℕ) (index after : List (List ℕ × List (List ℕ))) (rest : List Grant) → handed_to privilege grant ≡ Some grantee
    → Adds grant.grantor grantee index after → under name after ++ optioned_by rest privilege name ≡ under name index ++ optioned_by (grant ∷ rest) privilege name
next_added privilege name grant grantee index after rest is adds =
    ap (λ names. names ++ optioned_by rest privilege name) (adds name)
    ∙ chosen_if (is_at (name_order grant.grantor) name) grantee (under name index) (optioned_by rest privilege name)
    ∙ ap (λ b. under name index ++ cond b (grantee ∷ optioned_by rest privilege name) (optioned_by rest privilege name)) (is_eq-slice_cmp grant.grantor name)
    ∙ ap (λ names. under name index ++ names) (sym (optioned_next privilege name grant rest (Some grantee) is))
