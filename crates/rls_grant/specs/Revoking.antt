-- REVOKE of privileges on a table, or on columns of it (PostgreSQL manual, REVOKE): it takes the grants of the chosen grantors,
-- or their grant options. What is left then has to have grantors who hold the grant option: CASCADE takes the rest too.
use Rattle.std.specs.Prelude.{ℕ, List, [], ◌∷◌, Bool, ◌&&◌, ◌||◌, not, Result, Ok, Err, if◌then◌else◌, map, filter}
use Rattle.std.specs.List.{list_any}
use Rattle.rls_value.specs.{Giving.and_then, Names.one_of, declared.verb.Privilege.Privilege, declared.refusal.Refusal.Refusal, declared.refusal.Refusal.TheVariants.Dependent}
use Rattle.rls_verdict.specs.rls_expr.specs.{declared.policy.Grantee.Grantee, declared.table.TableDef.TableDef}
use Rattle.rls_verdict.specs.rls_catalog.specs.{declared.change.Change.Change, declared.grant.Grant.Grant, Privileges.is_same_privilege}
use Rattle.rls_verdict.specs.rls_catalog.specs.GrantOptions.{is_grant_of, not_grantable}
use Rattle.rls_role.specs.rls_source.specs.Asked.{asked_grants}
use Rattle.rls_role.specs.rls_source.specs.Askings.{Asking, known, followed_by}
use Rattle.rls_role.specs.rls_source.specs.Named.{table_or_undefined, grantees_or_undefined}
use Rattle.rls_role.specs.rls_statement.specs.{declared.statement.RevokePrivileges.RevokePrivileges, Extents.extent_of, Extents.takes_from}
use Rattle.rls_role.specs.{Reaching.effective_roles_of, declared.effective_roles.EffectiveRoles.EffectiveRoles}
use Rattle.rls_grant.specs.{declared.grantors.Grantor.Grantor, Columns.columns_or_undefined, Columns.option_or_unsupported, GrantedTo.is_to, Granting.grants_written, Grantors.grantors, Holders.holders_of}

-- ---- what is taken

-- the grant is by the grantor, of its privilege and to one of the grantees; where columns are named it is on one of them
abbrev pub is_by : RevokePrivileges → Grant → Grantor → Bool
is_by asked grant grantor = takes_from (extent_of asked.privileges grantor.privilege) grant.column && list_any (λ grantee. is_grant_of grantor.privilege grantee grantor.name grant) asked.from

-- by one of the grantors
abbrev pub is_taken : RevokePrivileges → List Grantor → Grant → Bool
is_taken asked by grant = list_any (is_by asked grant) by

-- by the grantor and to the grantee
abbrev pub is_one : RevokePrivileges → Grantor → Grantee → Grant → Bool
is_one asked grantor grantee grant = takes_from (extent_of asked.privileges grantor.privilege) grant.column && is_grant_of grantor.privilege grantee grantor.name grant

-- the grants without those of each grantee, one after another
abbrev pub without_from : RevokePrivileges → Grantor → List Grantee → List Grant → List Grant
without_from asked grantor [] grants = grants
without_from asked grantor (grantee ∷ from) grants = without_from asked grantor from (filter (λ grant. not (is_one asked grantor grantee grant)) grants)

-- and without those of each grantor
abbrev pub without_by : RevokePrivileges → List Grantor → List Grant → List Grant
without_by asked [] grants = grants
without_by asked (grantor ∷ by) grants = without_by asked by (filter (λ grant. not (is_by asked grant grantor)) grants)

-- some such grant has its grant option
abbrev pub takes_option_of : RevokePrivileges → List Grant → Grantor → Grantee → Bool
takes_option_of asked grants grantor grantee = list_any (λ grant. (grant.option && is_one asked grantor grantee grant) && is_to grantor.privilege grantee grant) grants

-- of some grantee
abbrev pub takes_option_by : RevokePrivileges → List Grant → Grantor → Bool
takes_option_by asked grants grantor = list_any (takes_option_of asked grants grantor) asked.from

-- by some grantor
abbrev pub takes_option : RevokePrivileges → List Grantor → List Grant → Bool
takes_option asked by grants = list_any (takes_option_by asked grants) by

-- it goes, or its grant option does
abbrev pub without_grant_option : RevokePrivileges → List Grantor → Grant → Grant
without_grant_option asked by grant = if is_taken asked by grant then not_grantable grant else grant

-- the grants without those that are taken, or without their options
abbrev pub without_taken : RevokePrivileges → List Grantor → List Grant → List Grant
without_taken asked by grants =
    if asked.option_only then map (without_grant_option asked by) grants else filter (λ grant. not (is_taken asked by grant)) grants

-- ---- what is left of it

-- a grant stays: it is of another privilege, or its grantor holds the grant option, as the test tells
abbrev pub stays : (List ℕ → Bool) → Privilege → Grant → Bool
stays holds privilege grant = not (is_same_privilege grant.privilege privilege) || holds grant.grantor

-- of one privilege: CASCADE leaves the grants whose grantor holds the grant option, RESTRICT refuses where there are others
abbrev pub left_or_refused : Bool → List ℕ → Privilege → (List ℕ → Bool) → List Grant → Result (List Grant) Refusal
left_or_refused cascade table privilege holds grants =
    if cascade then Ok (filter (stays holds privilege) grants)
    else (if list_any (λ grant. not (stays holds privilege grant)) grants then Err (Dependent table) else Ok grants)

-- of each privilege that was taken, in order
abbrev pub left_after : Bool → List ℕ → List ℕ → List Grantor → List Grant → Result (List Grant) Refusal
left_after cascade table owner [] grants = Ok grants
left_after cascade table owner (grantor ∷ by) grants =
    and_then (left_or_refused cascade table grantor.privilege (one_of (holders_of owner grants grantor.privilege)) grants) (λ left. left_after cascade table owner by left)

-- ---- the statement

-- what REVOKE changes: what it takes itself, and with CASCADE what hangs on that; without, it is refused where something does
unfoldable pub revoked : TableDef → List Grant → List Grantor → RevokePrivileges → Result (List Change) Refusal
revoked table grants by asked =
    and_then (left_after asked.cascade asked.table table.owner by (without_taken asked by grants)) (λ left. Ok (grants_written asked.table left))

-- each privilege has to have a grantor
unfoldable pub grants_revoked : EffectiveRoles → List ℕ → TableDef → List Grant → RevokePrivileges → Result (List Change) Refusal
grants_revoked effective_roles role table grants asked = and_then (grantors effective_roles role asked.table table grants asked.privileges) (λ by. revoked table grants by asked)

-- the grants that are there, and whose privileges the role has
unfoldable pub revoke_on : List ℕ → TableDef → RevokePrivileges → Asking (List Change)
revoke_on role table asked = followed_by (asked_grants asked.table) (λ grants.
    followed_by (effective_roles_of role) (λ effective_roles. known (grants_revoked effective_roles role table grants asked)))

-- the grantees have to be there, and no grant option is revoked on columns
unfoldable pub revoke_from : List ℕ → TableDef → RevokePrivileges → Asking (List Change)
revoke_from role table asked = followed_by (grantees_or_undefined asked.from) (λ _.
    followed_by (known (option_or_unsupported asked.option_only asked.privileges)) (λ _. revoke_on role table asked))

-- the table, the columns and the grantees have to be there
abbrev pub revoke : List ℕ → RevokePrivileges → Asking (List Change)
revoke role asked = followed_by (table_or_undefined asked.table) (λ table.
    followed_by (known (columns_or_undefined table.columns asked.privileges)) (λ _. revoke_from role table asked))
