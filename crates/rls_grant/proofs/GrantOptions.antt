-- A walk over grants with option meets who holds the option.
use Rattle.std.specs.Prelude.{◌≡◌, ◌↔◌, ℕ, suc, ◌+◌, List, [], ◌∷◌, ◌++◌, Some, None, Bool, true, false, if◌then◌else◌, take, slice_get}
use Rattle.std.specs.BTreeSet.{BTreeSet, contains}
use Rattle.std.specs.Str.{bytes_eq}
use Rattle.std.proofs.Common.{arith, sym, ap, ◌∙◌, subst, append_assoc, append-nil}
use Rattle.std.proofs.lemmas.Bool.{true≢false, or_left}
use Rattle.rls_value.specs.{Names.one_of, declared.verb.Privilege.Privilege}
use Rattle.rls_verdict.specs.rls_catalog.specs.{declared.grant.Grant.Grant, State.name_order, Membership.fresh, Membership.Within}
use Rattle.rls_verdict.specs.rls_catalog.specs.Privileges.{optioned_by, Options, Owner, Granted}
use Rattle.rls_verdict.specs.rls_catalog.proofs.Walks.{one_of-append, among_first, bytes_same, bytes_own, reads_all}
use Rattle.rls_grant.specs.Seen.{IsSetOf}
use Rattle.rls_grant.specs.Optioned.{AreHolders}
use Rattle.rls_verdict.specs.rls_catalog.proofs.Inheriting.{or_either, among_got, fresh_within, fresh_all, take_on}

-- each of the names holds the option
abbrev pub Sound : List ℕ → List Grant → Privilege → List (List ℕ) → Type 0
Sound owner grants privilege names = (name : List ℕ) → one_of names name ≡ true → Options owner grants privilege name

-- those to whom these granted the option are among the names
abbrev pub Closed : List Grant → Privilege → List (List ℕ) → List (List ℕ) → Type 0
Closed grants privilege these names = (name : List ℕ) → one_of these name ≡ true → Within (optioned_by grants privilege name) names

more_if : (b : Bool) (seen : List (List ℕ)) (x : List ℕ) (xs ys : List (List ℕ))
    → (seen ++ fresh seen xs) ++ fresh (seen ++ fresh seen xs) ys ≡ seen ++ fresh seen (xs ++ ys)
    → ((seen ++ x ∷ []) ++ fresh (seen ++ x ∷ []) xs) ++ fresh ((seen ++ x ∷ []) ++ fresh (seen ++ x ∷ []) xs) ys ≡ (seen ++ x ∷ []) ++ fresh (seen ++ x ∷ []) (xs ++ ys)
    → (seen ++ (if b then fresh seen xs else (x ∷ fresh (seen ++ x ∷ []) xs))) ++ fresh (seen ++ (if b then fresh seen xs else (x ∷ fresh (seen ++ x ∷ []) xs))) ys
    ≡ seen ++ (if b then fresh seen (xs ++ ys) else (x ∷ fresh (seen ++ x ∷ []) (xs ++ ys)))
more_if true seen x xs ys old new = old
more_if false seen x xs ys old new =
    ap (λ grown. grown ++ fresh grown ys) (sym (append_assoc seen (x ∷ []) (fresh (seen ++ x ∷ []) xs)))
    ∙ new ∙ append_assoc seen (x ∷ []) (fresh (seen ++ x ∷ []) (xs ++ ys))

-- what is fresh of names, and then of others
pub fresh_more : (seen xs ys : List (List ℕ)) → (seen ++ fresh seen xs) ++ fresh (seen ++ fresh seen xs) ys ≡ seen ++ fresh seen (xs ++ ys)
fresh_more seen [] ys = ap (λ grown. grown ++ fresh grown ys) (append-nil seen)
fresh_more seen (x ∷ xs) ys = more_if (one_of seen x) seen x xs ys (fresh_more seen xs ys) (fresh_more (seen ++ x ∷ []) xs ys)

one_more : (next : ℕ) → next + 1 ≡ suc next
one_more next = omega arith

-- ---- one more visit

-- the owner alone
pub sound_owner : (owner : List ℕ) (grants : List Grant) (privilege : Privilege) → Sound owner grants privilege (owner ∷ [])
sound_owner owner grants privilege name is =
    or_either (bytes_eq owner name) false is (λ same. subst (Options owner grants privilege) (bytes_same owner name same) Owner) (λ no. absurd (true≢false (sym no)))

pub own_owner : (owner : List ℕ) → one_of (owner ∷ []) owner ≡ true
own_owner owner = or_left (bytes_eq owner owner) false (bytes_own owner)

pub closed_none : (grants : List Grant) (privilege : Privilege) (names : List (List ℕ)) → Closed grants privilege [] names
closed_none grants privilege names name is = absurd (true≢false (sym is))

pub sound_next : (owner : List ℕ) (grants : List Grant) (privilege : Privilege) (names grown : List (List ℕ)) (next : ℕ) (name : List ℕ) → slice_get names next ≡ Some name
    → grown ≡ names ++ fresh names (optioned_by grants privilege name) → Sound owner grants privilege names → Sound owner grants privilege grown
sound_next owner grants privilege names grown next name found grows sound x is =
    let more : List (List ℕ) = fresh names (optioned_by grants privilege name) in
    or_either (one_of names x) (one_of more x) (sym (one_of-append names more x) ∙ ap (λ ns. one_of ns x) (sym grows) ∙ is) (sound x)
    (λ new. Granted name x (sound name (among_got names next name found)) (fresh_within names (optioned_by grants privilege name) x new))

pub keeps_next : (names grown more : List (List ℕ)) (x : List ℕ) → grown ≡ names ++ more → one_of names x ≡ true → one_of grown x ≡ true
keeps_next names grown more x grows is = ap (λ ns. one_of ns x) grows ∙ among_first names more x is

closed_grown : (grants : List Grant) (privilege : Privilege) (names : List (List ℕ)) (next : ℕ) (name : List ℕ) → slice_get names next ≡ Some name
    → Closed grants privilege (take next names) names
    → Closed grants privilege (take (suc next) (names ++ fresh names (optioned_by grants privilege name))) (names ++ fresh names (optioned_by grants privilege name))
closed_grown grants privilege names next name found closed grantor among granted is =
    let more : List (List ℕ) = fresh names (optioned_by grants privilege name) in
    or_either (one_of (take next names) grantor) (one_of (name ∷ []) grantor) (sym (one_of-append (take next names) (name ∷ []) grantor) ∙ ap (λ ns. one_of ns grantor) (sym (take_on names more next name found)) ∙ among)
    (λ before. among_first names more granted (closed grantor before granted is))
    (λ now. or_either (bytes_eq name grantor) false now
    (λ same. fresh_all names (optioned_by grants privilege name) granted (ap (λ b. one_of (optioned_by grants privilege b) granted) (bytes_same name grantor same) ∙ is))
    (λ no. absurd (true≢false (sym no))))

pub closed_next : (grants : List Grant) (privilege : Privilege) (names grown : List (List ℕ)) (next : ℕ) (name : List ℕ) → slice_get names next ≡ Some name
    → grown ≡ names ++ fresh names (optioned_by grants privilege name) → Closed grants privilege (take next names) names → Closed grants privilege (take (next + 1) grown) grown
closed_next grants privilege names grown next name found grows closed =
    subst (λ ns. Closed grants privilege (take (next + 1) ns) ns) (sym grows)
    (subst (λ n. Closed grants privilege (take n (names ++ fresh names (optioned_by grants privilege name))) (names ++ fresh names (optioned_by grants privilege name))) (sym (one_more next)) (closed_grown grants privilege names next name found closed))

-- ---- at the end

complete : (owner : List ℕ) (grants : List Grant) (privilege : Privilege) (names : List (List ℕ)) → one_of names owner ≡ true → Closed grants privilege names names
    → (name : List ℕ) → Options owner grants privilege name → one_of names name ≡ true
complete owner grants privilege names itself closed name Owner = itself
complete owner grants privilege names itself closed name (Granted grantor grantee holds is) = closed grantor (complete owner grants privilege names itself closed grantor holds) grantee is

pub all_options : (owner : List ℕ) (grants : List Grant) (privilege : Privilege) (names : List (List ℕ)) (seen : BTreeSet (List ℕ)) (next : ℕ) → IsSetOf seen names → slice_get names next ≡ None
    → Sound owner grants privilege names → one_of names owner ≡ true → Closed grants privilege (take next names) names → AreHolders owner grants privilege seen
all_options owner grants privilege names seen next same past sound itself closed role = (
  λ is. sound role (sym (same role) ∙ is),
  λ holds. same role ∙ complete owner grants privilege names itself (subst (λ these. Closed grants privilege these names) (reads_all names next past) closed) role holds,
)

-- where there is no table nobody is in the set
pub nobody : (holders : BTreeSet (List ℕ)) → ((role : List ℕ) → contains name_order holders role ≡ false) → (role : List ℕ) → (contains name_order holders role ≡ true) ↔ ⊥
nobody holders none role = ((λ is. true≢false (sym is ∙ none role)), (λ never. absurd never))
