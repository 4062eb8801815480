-- What is left after a REVOKE: there is one such list, it is what the test over those who hold the grant option leaves,
-- and nothing in it depends on what was taken away.
use Rattle.std.specs.Prelude.{◌≡◌, refl, ℕ, List, [], ◌∷◌, Bool, true, false, ◌&&◌, ◌||◌, not, cond, filter, ◌↔◌}
use Rattle.std.specs.List.{list_any, flat_map}
use Rattle.std.specs.Str.{bytes_eq}
use Rattle.std.proofs.Common.{ap, sym, ◌∙◌, subst, ◌⊎◌, inl, inr}
use Rattle.std.proofs.lemmas.Bool.{true≢false, or_left, or_right}
use Rattle.std.proofs.lemmas.List.Folds.{Any-from_list_any, list_any-from_Any}
use Rattle.rls_expr.specs.rls_value.specs.{Names.one_of, declared.verb.Privilege.Privilege}
use Rattle.rls_catalog.specs.declared.grant.Grant.{Grant}
use Rattle.rls_catalog.specs.Privileges.{is_same_privilege, roles_in, is_option_by, optioned_by, Options, Owner, Granted, AreOptions}
use Rattle.rls_catalog.proofs.Walks.{one_of-append, bytes_same}
use Rattle.rls_catalog.proofs.Inheriting.{or_either}
use Rattle.rls_catalog.specs.GrantOptions.{HaveGrantors, MayStay, LeftBy, End, Kept, Removed, LeftAfterRevoke, HasDependents, may_stay, left_by, has_dependents}

-- a fact of the owner that each grant with option hands on is one of all that hold the grant option
pub options_only : (owner : List ℕ) (grants : List Grant) (privilege : Privilege) (fact : List ℕ → Type 0)
    → fact owner → ((grantor grantee : List ℕ) → fact grantor → one_of (optioned_by grants privilege grantor) grantee ≡ true → fact grantee)
    → (role : List ℕ) → Options owner grants privilege role → fact role
options_only owner grants privilege fact own hands_on role Owner = own
options_only owner grants privilege fact own hands_on role (Granted grantor grantee holds is) = hands_on grantor grantee (options_only owner grants privilege fact own hands_on grantor holds) is

-- ---- one list is left

pub left_once : (stays : Grant → Type 0) (grants left other : List Grant) → LeftBy stays grants left → LeftBy stays grants other → left ≡ other
left_once stays grants left other End End = refl
left_once stays grants left other (Kept grant more first stay rest) (Kept same more_too second stay_too rest_too) = ap (λ l. grant ∷ l) (left_once stays more first second rest rest_too)
left_once stays grants left other (Kept grant more first stay rest) (Removed same more_too second gone rest_too) = absurd (gone stay)
left_once stays grants left other (Removed grant more first gone rest) (Kept same more_too second stay_too rest_too) = absurd (gone stay_too)
left_once stays grants left other (Removed grant more first gone rest) (Removed same more_too second gone_too rest_too) = left_once stays more first second rest rest_too

-- ---- the test and the fact

test_stays : (b d : Bool) {P : Type 0} → (d ≡ true → P) → (not b || d) ≡ true → (b ≡ false) ⊎ P
test_stays true d p is = inr (p is)
test_stays false d p is = inl refl

stays_test : (b d : Bool) {P : Type 0} → (P → d ≡ true) → (b ≡ false) ⊎ P → (not b || d) ≡ true
stays_test true d p (inl is) = absurd (true≢false is)
stays_test true d p (inr holds) = p holds
stays_test false d p either = refl

-- a grant may stay exactly where the test says so
pub may_stay_is : (owner : List ℕ) (grants : List Grant) (privilege : Privilege) (holders : List (List ℕ)) → AreOptions owner grants privilege holders
    → (grant : Grant) → (may_stay holders privilege grant ≡ true) ↔ MayStay owner grants privilege grant
may_stay_is owner grants privilege holders are grant = (
  test_stays (is_same_privilege grant.privilege privilege) (one_of holders grant.grantor) ((are grant.grantor).0),
  stays_test (is_same_privilege grant.privilege privilege) (one_of holders grant.grantor) ((are grant.grantor).1),
)

left_if : (b : Bool) (stays : Grant → Type 0) (grant : Grant) (grants left : List Grant) → (b ≡ true → stays grant) → (stays grant → b ≡ true) → LeftBy stays grants left → LeftBy stays (grant ∷ grants) (cond b (grant ∷ left) left)
left_if true stays grant grants left to from rest = Kept grant grants left (to refl) rest
left_if false stays grant grants left to from rest = Removed grant grants left (λ stay. true≢false (sym (from stay))) rest

filtered : (stays : Grant → Type 0) (test : Grant → Bool) → ((grant : Grant) → (test grant ≡ true) ↔ stays grant) → (grants : List Grant) → LeftBy stays grants (filter test grants)
filtered stays test is [] = End
filtered stays test is (grant ∷ grants) = left_if (test grant) stays grant grants (filter test grants) ((is grant).0) ((is grant).1) (filtered stays test is grants)

-- what the test leaves is what is left
pub left_by_is : (owner : List ℕ) (grants : List Grant) (privilege : Privilege) (holders : List (List ℕ)) → AreOptions owner grants privilege holders → LeftAfterRevoke owner grants privilege (left_by holders privilege grants)
left_by_is owner grants privilege holders are = filtered (MayStay owner grants privilege) (may_stay holders privilege) (may_stay_is owner grants privilege holders are) grants

-- ---- RESTRICT

refused : (b : Bool) {P : Type 0} → (b ≡ true → P) → (P → ⊥) → not b ≡ true
refused true to never = absurd (never (to refl))
refused false to never = refl

unless : (b : Bool) → not b ≡ true → b ≡ true → ⊥
unless true no_more is = true≢false (sym no_more)
unless false no_more is = true≢false (sym is)

-- a grant depends on what was taken away exactly where the test says so
pub has_dependents_is : (owner : List ℕ) (grants : List Grant) (privilege : Privilege) (holders : List (List ℕ)) → AreOptions owner grants privilege holders
    → (has_dependents holders privilege grants ≡ true) ↔ HasDependents owner grants privilege
has_dependents_is owner grants privilege holders are = (
  (λ is. let found = Any-from_list_any (λ grant. not (may_stay holders privilege grant)) grants is in
      (found.0, found.1, found.2, found.3, (λ stays. unless (may_stay holders privilege found.1) found.4 ((may_stay_is owner grants privilege holders are found.1).1 stays)))),
  (λ some_depends. list_any-from_Any (λ grant. not (may_stay holders privilege grant)) grants
      (some_depends.0, some_depends.1, some_depends.2, some_depends.3, refused (may_stay holders privilege some_depends.1) ((may_stay_is owner grants privilege holders are some_depends.1).0) some_depends.4)),
)

all_if : (b : Bool) (grant : Grant) (rest grants : List Grant) (some_no : Bool) → (some_no ≡ false → rest ≡ grants) → (not b || some_no) ≡ false → cond b (grant ∷ rest) rest ≡ grant ∷ grants
all_if true grant rest grants some_no further none = ap (λ l. grant ∷ l) (further none)
all_if false grant rest grants some_no further none = absurd (true≢false none)

-- where nothing depends on what was taken away, all is left
pub all_left : (test : Grant → Bool) (grants : List Grant) → list_any (λ grant. not (test grant)) grants ≡ false → filter test grants ≡ grants
all_left test [] none = refl
all_left test (grant ∷ grants) none = all_if (test grant) grant (filter test grants) grants (list_any (λ grant. not (test grant)) grants) (all_left test grants) none

-- ---- CASCADE

abbrev grantees_of : List Grant → List (List ℕ)
grantees_of grants = flat_map (λ grant. roles_in grant.grantee) grants

both_sides : (b : Bool) (grant : Grant) (some all : List Grant) (name : List ℕ) → (one_of (grantees_of some) name ≡ true → one_of (grantees_of all) name ≡ true)
    → one_of (grantees_of (cond b (grant ∷ some) some)) name ≡ true → one_of (grantees_of (cond b (grant ∷ all) all)) name ≡ true
both_sides true grant some all name further is =
    one_of-append (roles_in grant.grantee) (grantees_of all) name
    ∙ or_either (one_of (roles_in grant.grantee) name) (one_of (grantees_of some) name) (sym (one_of-append (roles_in grant.grantee) (grantees_of some) name) ∙ is)
    (λ here. or_left (one_of (roles_in grant.grantee) name) (one_of (grantees_of all) name) here)
    (λ there. or_right (one_of (roles_in grant.grantee) name) (one_of (grantees_of all) name) (further there))
both_sides false grant some all name further is = further is

one_side : (b : Bool) (grant : Grant) (all : List Grant) (name : List ℕ) → one_of (grantees_of all) name ≡ true → one_of (grantees_of (cond b (grant ∷ all) all)) name ≡ true
one_side true grant all name is = one_of-append (roles_in grant.grantee) (grantees_of all) name ∙ or_right (one_of (roles_in grant.grantee) name) (one_of (grantees_of all) name) is
one_side false grant all name is = is

dropped : (b : Bool) (grant : Grant) (all : List Grant) (name : List ℕ) → (b ≡ true → ⊥) → one_of (grantees_of (cond b (grant ∷ all) all)) name ≡ true → one_of (grantees_of all) name ≡ true
dropped true grant all name never is = absurd (never refl)
dropped false grant all name never is = is

fewer : (stays : Grant → Type 0) (test : Grant → Bool) (grants left : List Grant) → LeftBy stays grants left → (name : List ℕ)
    → one_of (grantees_of (filter test left)) name ≡ true → one_of (grantees_of (filter test grants)) name ≡ true
fewer stays test grants left End name is = is
fewer stays test grants left (Kept grant more rest stay by) name is = both_sides (test grant) grant (filter test rest) (filter test more) name (fewer stays test more rest by name) is
fewer stays test grants left (Removed grant more rest gone by) name is = one_side (test grant) grant (filter test more) name (fewer stays test more rest by name is)

no_fewer : (stays : Grant → Type 0) (test : Grant → Bool) → ((grant : Grant) → test grant ≡ true → stays grant) → (grants left : List Grant) → LeftBy stays grants left → (name : List ℕ)
    → one_of (grantees_of (filter test grants)) name ≡ true → one_of (grantees_of (filter test left)) name ≡ true
no_fewer stays test must grants left End name is = is
no_fewer stays test must grants left (Kept grant more rest stay by) name is = both_sides (test grant) grant (filter test more) (filter test rest) name (no_fewer stays test must more rest by name) is
no_fewer stays test must grants left (Removed grant more rest gone by) name is =
    no_fewer stays test must more rest by name (dropped (test grant) grant (filter test more) name (λ it. gone (must grant it)) is)

last_of : (a b : Bool) → (a && b) ≡ true → b ≡ true
last_of true b is = is
last_of false b is = absurd (true≢false (sym is))

-- who holds the grant option by what is left held it before
pub options_of_left : (owner : List ℕ) (grants : List Grant) (privilege : Privilege) (left : List Grant) → LeftAfterRevoke owner grants privilege left
    → (role : List ℕ) → Options owner left privilege role → Options owner grants privilege role
options_of_left owner grants privilege left by role Owner = Owner
options_of_left owner grants privilege left by role (Granted grantor grantee holds is) =
    Granted grantor grantee (options_of_left owner grants privilege left by grantor holds) (fewer (MayStay owner grants privilege) (is_option_by privilege grantor) grants left by grantee is)

stays_with : (owner : List ℕ) (grants : List Grant) (privilege : Privilege) (grantor : List ℕ) → Options owner grants privilege grantor
    → (grant : Grant) → is_option_by privilege grantor grant ≡ true → MayStay owner grants privilege grant
stays_with owner grants privilege grantor holds grant is =
    let same : grant.grantor ≡ grantor = bytes_same grant.grantor grantor (last_of (is_same_privilege grant.privilege privilege) (bytes_eq grant.grantor grantor) (last_of grant.option (is_same_privilege grant.privilege privilege && bytes_eq grant.grantor grantor) is)) in
    inr (subst (Options owner grants privilege) (sym same) holds)

-- and who held it holds it still: what is taken away in cascade takes no grant option from anyone
pub left_options : (owner : List ℕ) (grants : List Grant) (privilege : Privilege) (left : List Grant) → LeftAfterRevoke owner grants privilege left
    → (role : List ℕ) → Options owner grants privilege role → Options owner left privilege role
left_options owner grants privilege left by role Owner = Owner
left_options owner grants privilege left by role (Granted grantor grantee holds is) =
    Granted grantor grantee (left_options owner grants privilege left by grantor holds)
    (no_fewer (MayStay owner grants privilege) (is_option_by privilege grantor) (stays_with owner grants privilege grantor holds) grants left by grantee is)

settled : (stays stay_then : Grant → Type 0) → ((grant : Grant) → stays grant → stay_then grant) → (grants left : List Grant) → LeftBy stays grants left → LeftBy stay_then left left
settled stays stay_then still grants left End = End
settled stays stay_then still grants left (Kept grant more rest stay by) = Kept grant rest rest (still grant stay) (settled stays stay_then still more rest by)
settled stays stay_then still grants left (Removed grant more rest gone by) = settled stays stay_then still more rest by

still_may : (owner : List ℕ) (grants : List Grant) (privilege : Privilege) (left : List Grant) → LeftAfterRevoke owner grants privilege left
    → (grant : Grant) → MayStay owner grants privilege grant → MayStay owner left privilege grant
still_may owner grants privilege left by grant (inl other) = inl other
still_may owner grants privilege left by grant (inr holds) = inr (left_options owner grants privilege left by grant.grantor holds)

-- what is left needs no further removal: each grantor in it holds the grant option by it
pub left_is_settled : (owner : List ℕ) (grants : List Grant) (privilege : Privilege) (left : List Grant) → LeftAfterRevoke owner grants privilege left → LeftAfterRevoke owner left privilege left
left_is_settled owner grants privilege left by = settled (MayStay owner grants privilege) (MayStay owner left privilege) (still_may owner grants privilege left by) grants left by

-- grantors that hold the grant option by an owner hold it by one of the same name
pub have_grantors_by : (known owner : List ℕ) (grants : List Grant) → HaveGrantors known grants → bytes_eq known owner ≡ true → HaveGrantors owner grants
have_grantors_by known owner grants have is = subst (λ name. HaveGrantors name grants) (bytes_same known owner is) have
