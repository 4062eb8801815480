-- What hangs on who holds the grant option doesn't hang on the set that tells it.
use Rattle.std.specs.Prelude.{◌≡◌, refl, ℕ, List, Bool, true, false}
use Rattle.std.specs.BTreeSet.{BTreeSet, contains}
use Rattle.std.proofs.Common.{sym}
use Rattle.rls_value.specs.{Names.one_of, declared.verb.Privilege.Privilege}
use Rattle.rls_verdict.specs.rls_catalog.specs.{declared.grant.Grant.Grant, State.name_order}
use Rattle.rls_role.specs.declared.effective_roles.EffectiveRoles.{EffectiveRoles}
use Rattle.rls_grant.specs.{Grantors.grantor_by, Holders.holders_of, Optioned.AreHolders, Revoking.left_or_refused}
use Rattle.rls_grant.proofs.HolderLaws.{holders_are}

same_truth : (a b : Bool) → (a ≡ true → b ≡ true) → (b ≡ true → a ≡ true) → a ≡ b
same_truth true b to from = sym (to refl)
same_truth false true to from = from refl
same_truth false false to from = refl

-- a role is in the set exactly where it is one of those of the definition
pub same_one : (owner : List ℕ) (grants : List Grant) (privilege : Privilege) (holders : BTreeSet (List ℕ)) → AreHolders owner grants privilege holders
    → (role : List ℕ) → contains name_order holders role ≡ one_of (holders_of owner grants privilege) role
same_one owner grants privilege holders are role =
    same_truth (contains name_order holders role) (one_of (holders_of owner grants privilege) role)
    (λ is. (holders_are owner grants privilege role).1 ((are role).0 is)) (λ is. (are role).1 ((holders_are owner grants privilege role).0 is))

-- so the same role grants
pub grantor_same : (effective_roles : EffectiveRoles) (role owner : List ℕ) (grants : List Grant) (privilege : Privilege) (holders : BTreeSet (List ℕ)) → AreHolders owner grants privilege holders
    → grantor_by effective_roles role owner (contains name_order holders) ≡ grantor_by effective_roles role owner (one_of (holders_of owner grants privilege))
grantor_same effective_roles role owner grants privilege holders are i = grantor_by effective_roles role owner (λ name. same_one owner grants privilege holders are name i)

-- and the same is left
pub left_same : (cascade : Bool) (table owner : List ℕ) (privilege : Privilege) (holders : BTreeSet (List ℕ)) (grants : List Grant) → AreHolders owner grants privilege holders
    → left_or_refused cascade table privilege (contains name_order holders) grants ≡ left_or_refused cascade table privilege (one_of (holders_of owner grants privilege)) grants
left_same cascade table owner privilege holders grants are i = left_or_refused cascade table privilege (λ name. same_one owner grants privilege holders are name i) grants
