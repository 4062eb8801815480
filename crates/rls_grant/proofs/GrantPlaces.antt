-- A grant that is put into a list in key order stands where GRANT puts it; what is taken from the list one after another is gone.
use Rattle.std.specs.Prelude.{◌≡◌, refl, List, [], ◌∷◌, ◌++◌, Option, Some, None, Bool, true, false, not, ◌||◌, cond, if◌then◌else◌, map, filter}
use Rattle.std.specs.{BTreeMap.is_at, Cmp.IsTotalOrder, List.fold, Ordering.is_eq, Ordering.is_lt, Ordering.nat_cmp, Ordering.ordering_then, Ordering.ordering_reverse, Option.option_cmp}
use Rattle.std.specs.Cmp.Lexicographic.{options_total}
use Rattle.std.specs.declared.cmp.Ordering.{Ordering}
use Rattle.std.specs.declared.cmp.Ordering.TheVariants.{Less, Equal, Greater}
use Rattle.std.proofs.Common.{ap, sym, subst, ◌∙◌, append-nil, append_assoc}
use Rattle.std.proofs.lemmas.{Cmp.nat_cmp_total, Cmp.nat_list_cmp_total, Cmp.on_total, Cmp.then_total, List.Elements.filter-append}
use Rattle.rls_value.specs.declared.verb.Privilege.{Privilege}
use Rattle.rls_verdict.specs.rls_expr.specs.declared.policy.Grantee.{Grantee}
use Rattle.rls_verdict.specs.rls_catalog.specs.{declared.grant.Grant.Grant, declared.grant.GrantKey.GrantKey, GrantKeys.key_of, GrantKeys.key_order, GrantKeys.keys_exact, GrantKeys.role_of, GrantKeys.place_of as place_by_key, GrantOptions.not_grantable, State.name_order}
use Rattle.rls_role.specs.shared_map.specs.Lists.{InKeyOrder, item_at}
use Rattle.rls_role.specs.shared_map.proofs.KeyOrder.{next_put, next_removed, put_exchanges, put_inserts}
use Rattle.rls_role.specs.rls_source.specs.Sequences.{put_before}
use Rattle.rls_role.specs.rls_statement.specs.declared.statement.RevokePrivileges.{RevokePrivileges}
use Rattle.rls_grant.specs.{declared.grantors.Grantor.Grantor, Granting.grant_order, Granting.grantee_order, Granting.is_there, Granting.place_of, Granting.with_grant, Granting.with_grant_option, Placing.optioned, Placing.optioned_or, Placing.same_there, Placing.with_option_there, Placing.with_put, Placing.without_grant, Revoking.is_taken, Revoking.without_grant_option}

abbrev Ordered : List Grant → Type 0
Ordered grants = InKeyOrder key_order key_of grants

-- ---- the order of the keys

key_total : IsTotalOrder key_order
key_total = then_total (on_total (λ k. k.privilege) nat_cmp_total) (then_total (on_total (λ k. k.grantee) (options_total nat_list_cmp_total)) (then_total (on_total (λ k. k.grantor) (options_total nat_list_cmp_total)) (on_total (λ k. k.place) nat_cmp_total)))

place_same : (p : Privilege) → place_of p ≡ place_by_key p
place_same Privilege.Select = refl
place_same Privilege.Insert = refl
place_same Privilege.Update = refl
place_same Privilege.Delete = refl

grantee_same : (g h : Grantee) → grantee_order g h ≡ option_cmp name_order (role_of g) (role_of h)
grantee_same Grantee.Public Grantee.Public = refl
grantee_same Grantee.Public (Grantee.Role b) = refl
grantee_same (Grantee.Role a) Grantee.Public = refl
grantee_same (Grantee.Role a) (Grantee.Role b) = refl

-- grants stand in the order of their keys
by_keys : (x y : Grant) → grant_order x y ≡ key_order (key_of x) (key_of y)
by_keys x y i = ordering_then (nat_cmp (place_same x.privilege i) (place_same y.privilege i)) (ordering_then (grantee_same x.grantee y.grantee i) (ordering_then (name_order x.grantor y.grantor) (nat_cmp x.place y.place)))

equal_turned : (o : Ordering) → is_eq (ordering_reverse o) ≡ is_eq o
equal_turned Less = refl
equal_turned Equal = refl
equal_turned Greater = refl

alike : (grant other : Grant) → is_at (key_order (key_of grant)) (key_of other) ≡ is_eq (grant_order other grant)
alike grant other = ap is_eq (key_total.antisymm (key_of grant) (key_of other)) ∙ equal_turned (key_order (key_of other) (key_of grant)) ∙ ap is_eq (sym (by_keys other grant))

-- ---- grants of one key

tie_of : (o : Ordering) → is_eq o ≡ true → o ≡ Equal
tie_of Less is = cc
tie_of Equal is = refl
tie_of Greater is = cc

found_if : (b : Bool) (key : GrantKey) (x old : Grant) (rest : Option Grant) → is_at (key_order key) (key_of x) ≡ b → (rest ≡ Some old → key ≡ key_of old) → cond b (Some x) rest ≡ Some old → key ≡ key_of old
found_if true key x old rest tie further is = let one : x ≡ old = cc in keys_exact key (key_of x) (tie_of (key_order key (key_of x)) tie) ∙ ap key_of one
found_if false key x old rest tie further is = further is

found_key : (key : GrantKey) (grants : List Grant) (old : Grant) → item_at (is_at (key_order key)) key_of grants ≡ Some old → key ≡ key_of old
found_key key [] old is = cc
found_key key (x ∷ xs) old is = found_if (is_at (key_order key) (key_of x)) key x old (item_at (is_at (key_order key)) key_of xs) refl (found_key key xs old) is

-- ---- GRANT

abbrev is_found : Option Grant → Bool
is_found (Some grant) = true
is_found None = false

there_if : (b : Bool) (x : Grant) (rest : Option Grant) → (b || is_found rest) ≡ is_found (cond b (Some x) rest)
there_if true x rest = refl
there_if false x rest = refl

there : (grants : List Grant) (grant : Grant) → is_there grants grant ≡ is_found (same_there grants grant)
there [] grant = refl
there (x ∷ xs) grant =
    (λ i. sym (alike grant x) i || there xs grant i) ∙ there_if (is_at (key_order (key_of grant)) (key_of x)) x (same_there xs grant)

exchanged : (grant : Grant) (grants : List Grant) → map (λ x. cond (is_at (key_order (key_of grant)) (key_of x)) (optioned grant.option x) x) grants ≡ map (with_grant_option grant) grants
exchanged grant [] = refl
exchanged grant (x ∷ xs) = λ i. cond (alike grant x i) (optioned grant.option x) x ∷ exchanged grant xs i

abbrev put_new : List Grant → Grant → List Grant
put_new grants grant = put_before (λ other. is_lt (grant_order grant other)) grant grants

put_if : (found : Option Grant) (grants : List Grant) (grant : Grant) → Ordered grants → same_there grants grant ≡ found → with_put grants (with_option_there grants grant) ≡ with_grant grants grant
put_if (Some old) grants grant order is =
    let key : key_of grant ≡ key_of old = found_key (key_of grant) grants old is in
    ap (with_put grants) (ap (λ found. optioned_or found grant) is)
    ∙ put_exchanges key_total key_of (optioned grant.option) (optioned grant.option old) old grants order (ap (λ k. item_at (is_at (key_order k)) key_of grants) (sym key) ∙ is) refl
    ∙ ap (λ k. map (λ x. cond (is_at (key_order k) (key_of x)) (optioned grant.option x) x) grants) (sym key)
    ∙ exchanged grant grants
    ∙ ap (λ b. if b then map (with_grant_option grant) grants else put_new grants grant) (sym (there grants grant ∙ ap is_found is))
put_if None grants grant order is =
    ap (with_put grants) (ap (λ found. optioned_or found grant) is)
    ∙ put_inserts key_total key_of grant grants is
    ∙ (λ i. put_before (λ other. is_lt (sym (by_keys grant other) i)) grant grants)
    ∙ ap (λ b. if b then map (with_grant_option grant) grants else put_new grants grant) (sym (there grants grant ∙ ap is_found is))

-- GRANT puts a grant in its place, with the grant option of the same one too
pub grant_put : (grants : List Grant) (grant : Grant) → Ordered grants → with_put grants (with_option_there grants grant) ≡ with_grant grants grant
grant_put grants grant order = put_if (same_there grants grant) grants grant order refl

-- ---- REVOKE

-- the grants but for this one, if it is to go
abbrev pub left_at : (Grant → Bool) → List Grant → Grant → List Grant
left_at keep grants grant = if keep grant then grants else without_grant grants grant

left_if : (b : Bool) (kept left : List Grant) (grant : Grant) → without_grant (kept ++ grant ∷ left) grant ≡ kept ++ left
    → (if b then kept ++ grant ∷ left else without_grant (kept ++ grant ∷ left) grant) ≡ (kept ++ cond b (grant ∷ []) []) ++ left
left_if true kept left grant removed = sym (append_assoc kept (grant ∷ []) left)
left_if false kept left grant removed = removed ∙ ap (λ l. l ++ left) (sym (append-nil kept))

left_from : (keep : Grant → Bool) (seen left : List Grant) → Ordered (seen ++ left) → fold (left_at keep) (filter keep seen ++ left) left ≡ filter keep (seen ++ left)
left_from keep seen [] order = append-nil (filter keep seen) ∙ ap (filter keep) (sym (append-nil seen))
left_from keep seen (grant ∷ left) order =
    let joined : (seen ++ grant ∷ []) ++ left ≡ seen ++ grant ∷ left = append_assoc seen (grant ∷ []) left in
    ap (λ l. fold (left_at keep) l left)
    (left_if (keep grant) (filter keep seen) left grant (next_removed key_total key_of keep seen left grant order) ∙ ap (λ l. l ++ left) (sym (filter-append keep seen (grant ∷ []))))
    ∙ left_from keep (seen ++ grant ∷ []) left (subst Ordered (sym joined) order)
    ∙ ap (filter keep) joined

-- one after another, those that don't stay are taken away
pub each_left : (keep : Grant → Bool) (grants : List Grant) → Ordered grants → fold (left_at keep) grants grants ≡ filter keep grants
each_left keep grants order = left_from keep [] grants order

-- the grants with the grant option of this one revoked, if it is to go
abbrev pub revoked_at : RevokePrivileges → List Grantor → List Grant → Grant → List Grant
revoked_at asked by grants grant = if is_taken asked by grant then with_put grants (not_grantable grant) else grants

key_stays : (b : Bool) (grant : Grant) → key_of (if b then not_grantable grant else grant) ≡ key_of grant
key_stays true grant = refl
key_stays false grant = refl

revoked_if : (b : Bool) (done left : List Grant) (grant : Grant)
    → with_put (done ++ grant ∷ left) (if b then not_grantable grant else grant) ≡ done ++ (if b then not_grantable grant else grant) ∷ left
    → (if b then with_put (done ++ grant ∷ left) (not_grantable grant) else (done ++ grant ∷ left)) ≡ done ++ (if b then not_grantable grant else grant) ∷ left
revoked_if true done left grant put = put
revoked_if false done left grant put = refl

mapped_more : (f : Grant → Grant) (seen left : List Grant) (grant : Grant) → map f seen ++ f grant ∷ left ≡ map f (seen ++ grant ∷ []) ++ left
mapped_more f [] left grant = refl
mapped_more f (x ∷ seen) left grant = ap (λ l. f x ∷ l) (mapped_more f seen left grant)

revoked_from : (asked : RevokePrivileges) (by : List Grantor) (seen left : List Grant) → Ordered (seen ++ left)
    → fold (revoked_at asked by) (map (without_grant_option asked by) seen ++ left) left ≡ map (without_grant_option asked by) (seen ++ left)
revoked_from asked by seen [] order = append-nil (map (without_grant_option asked by) seen) ∙ ap (map (without_grant_option asked by)) (sym (append-nil seen))
revoked_from asked by seen (grant ∷ left) order =
    let f : Grant → Grant = without_grant_option asked by in
    let joined : (seen ++ grant ∷ []) ++ left ≡ seen ++ grant ∷ left = append_assoc seen (grant ∷ []) left in
    ap (λ l. fold (revoked_at asked by) l left)
    (revoked_if (is_taken asked by grant) (map f seen) left grant (next_put key_total key_of f (λ x. key_stays (is_taken asked by x) x) seen left grant order) ∙ mapped_more f seen left grant)
    ∙ revoked_from asked by (seen ++ grant ∷ []) left (subst Ordered (sym joined) order)
    ∙ ap (map f) joined

-- one after another, those that are taken lose the grant option
pub each_revoked : (asked : RevokePrivileges) (by : List Grantor) (grants : List Grant) → Ordered grants → fold (revoked_at asked by) grants grants ≡ map (without_grant_option asked by) grants
each_revoked asked by grants order = revoked_from asked by [] grants order
