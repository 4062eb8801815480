-- Privileges on tables and on columns of them (PostgreSQL manual, 5.7, "Privileges").
use Rattle.std.specs.Prelude.{◌≡◌, ◌↔◌, ℕ, List, [], ◌∷◌, ◌++◌, Option, Some, None, Bool, true, false, ◌&&◌, ◌||◌, not, if◌then◌else◌, filter, slice_get}
use Rattle.std.specs.List.{list_any, flat_map}
use Rattle.std.specs.Option.{is_none, option_map, option_map_or}
use Rattle.std.specs.Str.{bytes_eq}
use Rattle.rls_expr.specs.rls_value.specs.{Names.one_of, declared.verb.Privilege.Privilege, declared.object.Object.Object, declared.refusal.Why.Why}
use Rattle.rls_expr.specs.rls_value.specs.declared.verb.Privilege.TheVariants as p
use Rattle.rls_expr.specs.rls_value.specs.declared.object.Object.TheVariants as o
use Rattle.rls_expr.specs.rls_value.specs.declared.refusal.Why.TheVariants as w
use Rattle.rls_catalog.specs.declared.grant.Grant.{Grant}
use Rattle.rls_expr.specs.declared.policy.Grantee.{Grantee}
use Rattle.rls_expr.specs.declared.policy.Grantee.TheVariants as g
use Rattle.rls_catalog.specs.State.{State, grants_of}
use Rattle.rls_catalog.specs.Membership.{attributes_of, walked_by, effective_roles_reads}

-- what is for PUBLIC is for each role; what is for a role, for those that have its privileges: a superuser, and one
-- that reaches it
abbrev pub includes : Bool → List (List ℕ) → Grantee → Bool
includes superuser reached g.Public = true
includes superuser reached (g.Role name) = superuser || one_of reached name

-- what is for the grantee is for the role
abbrev pub concerns : State → List ℕ → Grantee → Bool
concerns s role = includes (attributes_of s role).superuser (walked_by s role)

-- the same privilege
abbrev pub is_same_privilege : Privilege → Privilege → Bool
is_same_privilege p.Select p.Select = true
is_same_privilege p.Insert p.Insert = true
is_same_privilege p.Update p.Update = true
is_same_privilege p.Delete p.Delete = true
is_same_privilege _ _ = false

-- ---- what a grant is on, and for whom

-- the grant is on the whole table
abbrev pub is_whole : Grant → Bool
is_whole grant = is_none grant.column

-- it is on that column
abbrev pub is_on : List ℕ → Grant → Bool
is_on column grant = option_map_or (bytes_eq column) grant.column false

-- it is of the privilege, and for the role
abbrev pub is_for : State → List ℕ → Privilege → Grant → Bool
is_for s role privilege grant = is_same_privilege grant.privilege privilege && concerns s role grant.grantee

-- ---- what a role holds, and what it lacks

-- a role holds a privilege on a table if it is a superuser, or some grant of it on the whole table is for the role
abbrev pub holds : State → List ℕ → Privilege → List ℕ → Bool
holds s role privilege table = (attributes_of s role).superuser || list_any (λ grant. is_whole grant && is_for s role privilege grant) (grants_of s table)

-- on a column of it, by a grant on that column
abbrev pub holds_on : State → List ℕ → Privilege → List ℕ → List ℕ → Bool
holds_on s role privilege table column = list_any (λ grant. is_on column grant && is_for s role privilege grant) (grants_of s table)

-- DELETE alone is of whole tables only
abbrev pub is_of_columns : Privilege → Bool
is_of_columns p.Select = true
is_of_columns p.Insert = true
is_of_columns p.Update = true
is_of_columns p.Delete = false

-- on some column of it
abbrev pub holds_some : State → List ℕ → Privilege → List ℕ → Bool
holds_some s role privilege table = is_of_columns privilege && list_any (λ grant. not (is_whole grant) && is_for s role privilege grant) (grants_of s table)

-- what the role lacks of a privilege on a table, for these columns of it, which stand in the table's order. The whole
-- privilege does for each column; so does a grant on it; where no column is asked for, a grant on some column does. Where none
-- reaches the role, the privilege is what is missing, and else the first column that no grant is on
abbrev pub missing : State → List ℕ → Privilege → List ℕ → List (List ℕ) → Option Why
missing s role privilege table columns =
    if holds s role privilege table then None
    else (if holds_some s role privilege table
    then option_map (w.Column privilege table) (slice_get (filter (λ column. not (holds_on s role privilege table column)) columns) 0)
    else Some (w.Privilege privilege table))

-- what is read to tell whether a role holds a privilege, and what it lacks
abbrev pub holds_reads : State → List ℕ → List ℕ → List Object
holds_reads s role table = effective_roles_reads s role ++ (if (attributes_of s role).superuser then [] else (o.Grants table ∷ []))

-- ---- grant options

-- a grant option is for a role: PUBLIC holds none
abbrev pub roles_in : Grantee → List (List ℕ)
roles_in g.Public = []
roles_in (g.Role name) = name ∷ []

-- the grant is of the privilege, with its grant option, by the role
abbrev pub is_option_by : Privilege → List ℕ → Grant → Bool
is_option_by privilege grantor grant = grant.option && (is_same_privilege grant.privilege privilege && bytes_eq grant.grantor grantor)

-- those to whom the role granted the grant option for the privilege
abbrev pub optioned_by : List Grant → Privilege → List ℕ → List (List ℕ)
optioned_by grants privilege grantor = flat_map (λ grant. roles_in grant.grantee) (filter (is_option_by privilege grantor) grants)

-- who holds the grant option (PostgreSQL manual, GRANT and REVOKE): the least set that has the owner and each grantee of
-- a grant with option whose grantor is in it
pub data Options (owner : List ℕ) (grants : List Grant) (privilege : Privilege) : List ℕ → Type 0 where
  Owner : Options owner grants privilege owner
  Granted : (grantor grantee : List ℕ) → Options owner grants privilege grantor → one_of (optioned_by grants privilege grantor) grantee ≡ true → Options owner grants privilege grantee

-- the roles are those that hold the grant option, and no others
abbrev pub AreOptions : List ℕ → List Grant → Privilege → List (List ℕ) → Type 0
AreOptions owner grants privilege holders = (role : List ℕ) → (one_of holders role ≡ true) ↔ Options owner grants privilege role
