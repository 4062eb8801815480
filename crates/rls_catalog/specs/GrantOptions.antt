-- What becomes of grants by REVOKE, and who may grant (PostgreSQL manual, GRANT and REVOKE): each grant that is left has
-- a grantor who holds the grant option.
use Rattle.std.specs.Prelude.{◌≡◌, ℕ, List, [], ◌∷◌, Option, Some, None, Bool, true, false, ◌&&◌, ◌||◌, not, if◌then◌else◌, map, filter}
use Rattle.std.specs.List.{AllByRecursion, list_any, Any}
use Rattle.std.specs.Str.{bytes_eq}
use Rattle.std.proofs.Common.{◌⊎◌}
use Rattle.rls_expr.specs.rls_value.specs.{Names.one_of, declared.verb.Privilege.Privilege}
use Rattle.rls_catalog.specs.{declared.grant.Grant.Grant, State.State, Verdict.least}
use Rattle.rls_expr.specs.declared.policy.Grantee.{Grantee}
use Rattle.rls_expr.specs.declared.policy.Grantee.TheVariants as g
use Rattle.rls_catalog.specs.Membership.{has_privileges_of, walked_by}
use Rattle.rls_catalog.specs.Privileges.{is_same_privilege, Options}

-- ---- what REVOKE takes away itself

-- the same grantee
abbrev pub is_same_grantee : Grantee → Grantee → Bool
is_same_grantee g.Public g.Public = true
is_same_grantee (g.Role name) (g.Role other) = bytes_eq name other
is_same_grantee _ _ = false

-- the grant is of the privilege, to the grantee, by the grantor
abbrev pub is_grant_of : Privilege → Grantee → List ℕ → Grant → Bool
is_grant_of privilege grantee grantor grant = is_same_privilege grant.privilege privilege && (is_same_grantee grant.grantee grantee && bytes_eq grant.grantor grantor)

-- the grant without its grant option
abbrev pub not_grantable : Grant → Grant
not_grantable grant = record grant { option = false }

-- REVOKE takes away the grant of the chosen grantor
abbrev pub without_grant : Privilege → Grantee → List ℕ → List Grant → List Grant
without_grant privilege grantee grantor grants = filter (λ grant. not (is_grant_of privilege grantee grantor grant)) grants

-- REVOKE GRANT OPTION FOR takes away its grant option alone
abbrev pub without_option : Privilege → Grantee → List ℕ → List Grant → List Grant
without_option privilege grantee grantor grants = map (λ grant. if is_grant_of privilege grantee grantor grant then not_grantable grant else grant) grants

-- ---- what is left then

-- a grant may stay: it is of another privilege, or its grantor holds the grant option
abbrev pub MayStay : List ℕ → List Grant → Privilege → Grant → Type 0
MayStay owner grants privilege grant = (is_same_privilege grant.privilege privilege ≡ false) ⊎ Options owner grants privilege grant.grantor

-- by the grants, each grantor of these holds the grant option for what it granted
abbrev pub GrantorsHold : List ℕ → List Grant → List Grant → Type 0
GrantorsHold owner grants these = AllByRecursion (λ grant. Options owner grants grant.privilege grant.grantor) these

-- so does each of their own, as where GRANT and REVOKE made them
abbrev pub HaveGrantors : List ℕ → List Grant → Type 0
HaveGrantors owner grants = GrantorsHold owner grants grants

-- of the grants those that may stay, in their order
pub data LeftBy (stays : Grant → Type 0) : List Grant → List Grant → Type 0 where
  End : LeftBy stays [] []
  Kept : (grant : Grant) (grants left : List Grant) → stays grant → LeftBy stays grants left → LeftBy stays (grant ∷ grants) (grant ∷ left)
  Removed : (grant : Grant) (grants left : List Grant) → (stays grant → ⊥) → LeftBy stays grants left → LeftBy stays (grant ∷ grants) left

-- what CASCADE leaves of the grants that the REVOKE itself left
abbrev pub LeftAfterRevoke : List ℕ → List Grant → Privilege → List Grant → Type 0
LeftAfterRevoke owner grants privilege left = LeftBy (MayStay owner grants privilege) grants left

-- RESTRICT is refused: some grant of the privilege is left whose grantor doesn't hold the grant option
abbrev pub HasDependents : List ℕ → List Grant → Privilege → Type 0
HasDependents owner grants privilege = Any (λ grant. MayStay owner grants privilege grant → ⊥) grants

-- ---- the same by a list of those who hold the grant option

abbrev pub may_stay : List (List ℕ) → Privilege → Grant → Bool
may_stay holders privilege grant = not (is_same_privilege grant.privilege privilege) || one_of holders grant.grantor

abbrev pub left_by : List (List ℕ) → Privilege → List Grant → List Grant
left_by holders privilege grants = filter (may_stay holders privilege) grants

abbrev pub has_dependents : List (List ℕ) → Privilege → List Grant → Bool
has_dependents holders privilege grants = list_any (λ grant. not (may_stay holders privilege grant)) grants

-- ---- who is the grantor

-- the owner, where the role has its privileges; else the role itself, where it holds the grant option; else the least
-- role by its bytes whose privileges it has and that holds the grant option
abbrev pub grantor_of : State → List ℕ → List ℕ → List (List ℕ) → Option (List ℕ)
grantor_of s role owner holders =
    if has_privileges_of s role owner then Some owner
    else (if one_of holders role then Some role else least None (filter (one_of holders) (walked_by s role)))

-- ---- what may not be granted

-- the grants without the grant options of the grantee
abbrev pub without_options_of : List ℕ → List Grant → List Grant
without_options_of grantee grants = map (λ grant. if is_same_grantee grant.grantee (g.Role grantee) then not_grantable grant else grant) grants

-- a grant with grant option goes back to its grantor: without the grantee's own grant options he wouldn't hold it
abbrev pub GoesBack : List ℕ → List Grant → Privilege → List ℕ → List ℕ → Type 0
GoesBack owner grants privilege grantor grantee = Options owner (without_options_of grantee grants) privilege grantor → ⊥
