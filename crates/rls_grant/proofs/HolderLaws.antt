-- The rounds find exactly those who hold the grant option.
use Rattle.std.specs.Prelude.{◌≡◌, refl, ℕ, zero, suc, ◌+◌, ◌≤◌, List, [], ◌∷◌, ◌++◌, Bool, true, false, cond, filter, length}
use Rattle.std.specs.Str.{bytes_eq}
use Rattle.std.proofs.Common.{arith, sym, ap, ◌∙◌, subst, append-nil}
use Rattle.std.proofs.lemmas.Bool.{true≢false, or_left, or_right}
use Rattle.rls_value.specs.Names.{one_of}
use Rattle.rls_value.specs.declared.verb.Privilege.{Privilege}
use Rattle.rls_verdict.specs.rls_catalog.specs.declared.grant.Grant.{Grant}
use Rattle.rls_verdict.specs.rls_catalog.specs.Membership.{fresh, Within}
use Rattle.rls_verdict.specs.rls_catalog.specs.Privileges.{roles_in, is_option_by, optioned_by, Options, Owner, Granted, AreOptions}
use Rattle.rls_verdict.specs.rls_catalog.proofs.Walks.{one_of-append, among_first, bytes_same, bytes_own, left, left_all, fresh_few}
use Rattle.rls_verdict.specs.rls_catalog.proofs.Inheriting.{or_either, fresh_within, fresh_all}
use Rattle.rls_grant.specs.Holders.{optioned_by_all, rounds, grantees_of, holders_of}

-- ---- they hold it

-- each of the names holds the option
abbrev Sound : List ℕ → List Grant → Privilege → List (List ℕ) → Type 0
Sound owner grants privilege names = (name : List ℕ) → one_of names name ≡ true → Options owner grants privilege name

sound_all : (owner : List ℕ) (grants : List Grant) (privilege : Privilege) (names : List (List ℕ)) → Sound owner grants privilege names → Sound owner grants privilege (optioned_by_all grants privilege names)
sound_all owner grants privilege [] sound name is = absurd (true≢false (sym is))
sound_all owner grants privilege (x ∷ xs) sound name is =
    or_either (one_of (optioned_by grants privilege x) name) (one_of (optioned_by_all grants privilege xs) name)
    (sym (one_of-append (optioned_by grants privilege x) (optioned_by_all grants privilege xs) name) ∙ is)
    (λ here. Granted x name (sound x (or_left (bytes_eq x x) (one_of xs x) (bytes_own x))) here)
    (λ there. sound_all owner grants privilege xs (λ y among. sound y (or_right (bytes_eq x y) (one_of xs y) among)) name there)

sound_grown : (owner : List ℕ) (grants : List Grant) (privilege : Privilege) (names : List (List ℕ)) → Sound owner grants privilege names
    → Sound owner grants privilege (names ++ fresh names (optioned_by_all grants privilege names))
sound_grown owner grants privilege names sound name is =
    let more : List (List ℕ) = optioned_by_all grants privilege names in
    or_either (one_of names name) (one_of (fresh names more) name) (sym (one_of-append names (fresh names more) name) ∙ is) (sound name)
    (λ new. sound_all owner grants privilege names sound name (fresh_within names more name new))

sound_rounds : (n : ℕ) (owner : List ℕ) (grants : List Grant) (privilege : Privilege) (names : List (List ℕ)) → Sound owner grants privilege names → Sound owner grants privilege (rounds n grants privilege names)
sound_rounds zero owner grants privilege names sound = sound
sound_rounds (suc n) owner grants privilege names sound = sound_rounds n owner grants privilege (names ++ fresh names (optioned_by_all grants privilege names)) (sound_grown owner grants privilege names sound)

-- ---- nobody else does

among_last : (xs ys zs : List (List ℕ)) → Within zs ys → Within zs (xs ++ ys)
among_last xs ys zs within name is = one_of-append xs ys name ∙ or_right (one_of xs name) (one_of ys name) (within name is)

both_within : (xs ys zs others : List (List ℕ)) → Within xs zs → Within ys others → Within (xs ++ ys) (zs ++ others)
both_within xs ys zs others first second name is =
    or_either (one_of xs name) (one_of ys name) (sym (one_of-append xs ys name) ∙ is) (λ here. among_first zs others name (first name here)) (λ there. among_last zs others ys second name there)

optioned_if : (b : Bool) (grant : Grant) (kept : List Grant) (all : List (List ℕ)) → Within (grantees_of kept) all
    → Within (grantees_of (cond b (grant ∷ kept) kept)) (roles_in grant.grantee ++ all)
optioned_if true grant kept all within = both_within (roles_in grant.grantee) (grantees_of kept) (roles_in grant.grantee) all (λ name is. is) within
optioned_if false grant kept all within = among_last (roles_in grant.grantee) all (grantees_of kept) within

optioned_within : (grants : List Grant) (privilege : Privilege) (grantor : List ℕ) → Within (optioned_by grants privilege grantor) (grantees_of grants)
optioned_within [] privilege grantor = λ name is. is
optioned_within (grant ∷ grants) privilege grantor =
    optioned_if (is_option_by privilege grantor grant) grant (filter (is_option_by privilege grantor) grants) (grantees_of grants) (optioned_within grants privilege grantor)

all_within : (grants : List Grant) (privilege : Privilege) (names : List (List ℕ)) → Within (optioned_by_all grants privilege names) (grantees_of grants)
all_within grants privilege [] name is = absurd (true≢false (sym is))
all_within grants privilege (x ∷ xs) name is =
    or_either (one_of (optioned_by grants privilege x) name) (one_of (optioned_by_all grants privilege xs) name)
    (sym (one_of-append (optioned_by grants privilege x) (optioned_by_all grants privilege xs) name) ∙ is)
    (optioned_within grants privilege x name) (all_within grants privilege xs name)

-- those to whom the names granted the option are among them
abbrev Closed : List Grant → Privilege → List (List ℕ) → Type 0
Closed grants privilege names = Within (optioned_by_all grants privilege names) names

closed_if_none : (grants : List Grant) (privilege : Privilege) (names new : List (List ℕ)) → fresh names (optioned_by_all grants privilege names) ≡ new → new ≡ [] → Closed grants privilege names
closed_if_none grants privilege names new is none =
    subst (Within (optioned_by_all grants privilege names)) (ap (λ more. names ++ more) (is ∙ none) ∙ append-nil names) (fresh_all names (optioned_by_all grants privilege names))

stays : (n : ℕ) (grants : List Grant) (privilege : Privilege) (names : List (List ℕ)) → fresh names (optioned_by_all grants privilege names) ≡ [] → rounds n grants privilege names ≡ names
stays zero grants privilege names none = refl
stays (suc n) grants privilege names none = ap (rounds n grants privilege) (ap (λ more. names ++ more) none ∙ append-nil names) ∙ stays n grants privilege names none

none_of_none : (new : List (List ℕ)) → length new ≤ 0 → new ≡ []
none_of_none [] few = refl
none_of_none (x ∷ xs) few = absurd (omega arith)

closed_next : (n : ℕ) (grants : List Grant) (privilege : Privilege) (names new : List (List ℕ)) → fresh names (optioned_by_all grants privilege names) ≡ new
    → length new + left (grantees_of grants) (names ++ new) ≤ suc n
    → ((grown : List (List ℕ)) → left (grantees_of grants) grown ≤ n → Closed grants privilege (rounds n grants privilege grown))
    → Closed grants privilege (rounds n grants privilege (names ++ new))
closed_next n grants privilege names [] is few further =
    subst (Closed grants privilege) (sym (ap (rounds n grants privilege) (append-nil names) ∙ stays n grants privilege names is)) (closed_if_none grants privilege names [] is refl)
closed_next n grants privilege names (x ∷ xs) is few further = further (names ++ x ∷ xs) (omega (arith, few))

closed_rounds : (n : ℕ) (grants : List Grant) (privilege : Privilege) (names : List (List ℕ)) → left (grantees_of grants) names ≤ n → Closed grants privilege (rounds n grants privilege names)
closed_rounds zero grants privilege names few =
    let new : List (List ℕ) = fresh names (optioned_by_all grants privilege names) in
    let bound : length new + left (grantees_of grants) (names ++ new) ≤ left (grantees_of grants) names = fresh_few (grantees_of grants) names (optioned_by_all grants privilege names) (all_within grants privilege names) in
    closed_if_none grants privilege names new refl (none_of_none new (omega (arith, bound, few)))
closed_rounds (suc n) grants privilege names few =
    let new : List (List ℕ) = fresh names (optioned_by_all grants privilege names) in
    let bound : length new + left (grantees_of grants) (names ++ new) ≤ left (grantees_of grants) names = fresh_few (grantees_of grants) names (optioned_by_all grants privilege names) (all_within grants privilege names) in
    closed_next n grants privilege names new refl (omega (arith, bound, few)) (λ grown fewer. closed_rounds n grants privilege grown fewer)

keeps : (n : ℕ) (grants : List Grant) (privilege : Privilege) (names : List (List ℕ)) → Within names (rounds n grants privilege names)
keeps zero grants privilege names name is = is
keeps (suc n) grants privilege names name is =
    keeps n grants privilege (names ++ fresh names (optioned_by_all grants privilege names)) name (among_first names (fresh names (optioned_by_all grants privilege names)) name is)

handed_on : (grants : List Grant) (privilege : Privilege) (names : List (List ℕ)) (grantor grantee : List ℕ) → one_of names grantor ≡ true → one_of (optioned_by grants privilege grantor) grantee ≡ true
    → one_of (optioned_by_all grants privilege names) grantee ≡ true
handed_on grants privilege [] grantor grantee among is = absurd (true≢false (sym among))
handed_on grants privilege (x ∷ xs) grantor grantee among is =
    one_of-append (optioned_by grants privilege x) (optioned_by_all grants privilege xs) grantee
    ∙ or_either (bytes_eq x grantor) (one_of xs grantor) among
    (λ same. or_left (one_of (optioned_by grants privilege x) grantee) (one_of (optioned_by_all grants privilege xs) grantee) (ap (λ y. one_of (optioned_by grants privilege y) grantee) (bytes_same x grantor same) ∙ is))
    (λ there. or_right (one_of (optioned_by grants privilege x) grantee) (one_of (optioned_by_all grants privilege xs) grantee) (handed_on grants privilege xs grantor grantee there is))

complete : (owner : List ℕ) (grants : List Grant) (privilege : Privilege) (names : List (List ℕ)) → one_of names owner ≡ true → Closed grants privilege names
    → (name : List ℕ) → Options owner grants privilege name → one_of names name ≡ true
complete owner grants privilege names itself closed name Owner = itself
complete owner grants privilege names itself closed name (Granted grantor grantee holds is) =
    closed grantee (handed_on grants privilege names grantor grantee (complete owner grants privilege names itself closed grantor holds) is)

-- the rounds find exactly those that hold the grant option
pub holders_are : (owner : List ℕ) (grants : List Grant) (privilege : Privilege) → AreOptions owner grants privilege (holders_of owner grants privilege)
unfolding holders_of
holders_are owner grants privilege role = (
  sound_rounds (length (grantees_of grants)) owner grants privilege (owner ∷ [])
      (λ name is. or_either (bytes_eq owner name) false is (λ same. subst (Options owner grants privilege) (bytes_same owner name same) Owner) (λ no. absurd (true≢false (sym no)))) role,
  complete owner grants privilege (rounds (length (grantees_of grants)) grants privilege (owner ∷ []))
      (keeps (length (grantees_of grants)) grants privilege (owner ∷ []) owner (or_left (bytes_eq owner owner) false (bytes_own owner)))
      (closed_rounds (length (grantees_of grants)) grants privilege (owner ∷ []) (left_all (grantees_of grants) (owner ∷ []))) role,
)

-- two lists of those who hold it have the same names
pub same_holders : (owner : List ℕ) (grants : List Grant) (privilege : Privilege) (names others : List (List ℕ)) → AreOptions owner grants privilege names → AreOptions owner grants privilege others
    → (role : List ℕ) → one_of names role ≡ one_of others role
same_holders owner grants privilege names others are those role =
    same_truth (one_of names role) (one_of others role) (λ is. (those role).1 ((are role).0 is)) (λ is. (are role).1 ((those role).0 is))
  where
    same_truth : (a b : Bool) → (a ≡ true → b ≡ true) → (b ≡ true → a ≡ true) → a ≡ b
    same_truth true b to from = sym (to refl)
    same_truth false true to from = from refl
    same_truth false false to from = refl
