-- What the tests of GRANT and REVOKE mean: they tell the least set of those who hold the grant option.
use Rattle.std.specs.Prelude.{◌≡◌, refl, ◌↔◌, ℕ, List, Bool, true, false, not, filter}
use Rattle.std.specs.List.{list_any}
use Rattle.std.proofs.Common.{sym}
use Rattle.std.proofs.lemmas.Bool.{true≢false}
use Rattle.rls_value.specs.{Names.one_of, declared.verb.Privilege.Privilege}
use Rattle.rls_verdict.specs.rls_catalog.specs.{declared.grant.Grant.Grant, Privileges.Options}
use Rattle.rls_verdict.specs.rls_catalog.specs.GrantOptions.{GoesBack, HasDependents, LeftAfterRevoke, without_options_of}
use Rattle.rls_verdict.specs.rls_catalog.proofs.Revoking.{has_dependents_is, left_by_is}
use Rattle.rls_grant.specs.{Granting.goes_back, Holders.holders_of, Revoking.stays}
use Rattle.rls_grant.proofs.HolderLaws.{holders_are}

no_test : (b : Bool) {P : Type 0} → (P → b ≡ true) → not b ≡ true → P → ⊥
no_test true from fails holds = true≢false (sym fails)
no_test false from fails holds = true≢false (sym (from holds))

test_no : (b : Bool) {P : Type 0} → (b ≡ true → P) → (P → ⊥) → not b ≡ true
test_no true to never = absurd (never (to refl))
test_no false to never = refl

-- a grant with option goes back exactly where the rule says so
pub goes_back_is : (owner : List ℕ) (grants : List Grant) (privilege : Privilege) (grantor grantee : List ℕ) → (goes_back owner grants privilege grantor grantee ≡ true) ↔ GoesBack owner grants privilege grantor grantee
goes_back_is owner grants privilege grantor grantee =
    let are : (one_of (holders_of owner (without_options_of grantee grants) privilege) grantor ≡ true) ↔ Options owner (without_options_of grantee grants) privilege grantor = holders_are owner (without_options_of grantee grants) privilege grantor in
    (no_test (one_of (holders_of owner (without_options_of grantee grants) privilege) grantor) are.1, test_no (one_of (holders_of owner (without_options_of grantee grants) privilege) grantor) are.0)

-- what CASCADE leaves is what the rule leaves
pub left_is : (owner : List ℕ) (grants : List Grant) (privilege : Privilege) → LeftAfterRevoke owner grants privilege (filter (stays (one_of (holders_of owner grants privilege)) privilege) grants)
left_is owner grants privilege = left_by_is owner grants privilege (holders_of owner grants privilege) (holders_are owner grants privilege)

-- RESTRICT refuses where the rule does
pub dependents_are : (owner : List ℕ) (grants : List Grant) (privilege : Privilege) → (list_any (λ grant. not (stays (one_of (holders_of owner grants privilege)) privilege grant)) grants ≡ true) ↔ HasDependents owner grants privilege
dependents_are owner grants privilege = has_dependents_is owner grants privilege (holders_of owner grants privilege) (holders_are owner grants privilege)
