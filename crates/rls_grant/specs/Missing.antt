-- What a role lacks of a privilege on a table, told by whose privileges it has and by the grants there.
use Rattle.std.specs.Prelude.{ℕ, List, Option, Some, None, Bool, ◌&&◌, ◌||◌, not, is_some, if◌then◌else◌, filter, slice_get}
use Rattle.std.specs.List.{flat_map, list_any}
use Rattle.std.specs.Option.{option_map, option_to_list}
use Rattle.rls_value.specs.{Names.one_of, declared.verb.Privilege.Privilege, declared.refusal.Why.Why}
use Rattle.rls_value.specs.declared.refusal.Why.TheVariants as w
use Rattle.rls_verdict.specs.rls_catalog.specs.{declared.grant.Grant.Grant, Privileges.includes, Privileges.is_of_columns, Privileges.is_on, Privileges.is_same_privilege, Privileges.is_whole}

-- the grant is of the privilege, and for a role with these privileges
abbrev pub reaches : Bool → List (List ℕ) → Privilege → Grant → Bool
reaches superuser names privilege grant = is_same_privilege grant.privilege privilege && includes superuser names grant.grantee

-- some such grant is on the column
abbrev pub is_granted_on : (Grant → Bool) → List Grant → List ℕ → Bool
is_granted_on is_for grants column = list_any (λ grant. is_on column grant && is_for grant) grants

-- some such grant is on a column
abbrev pub is_granted_some : (Grant → Bool) → List Grant → Bool
is_granted_some is_for grants = list_any (λ grant. not (is_whole grant) && is_for grant) grants

-- the column of such a grant
abbrev pub column_on : (Grant → Bool) → Grant → Option (List ℕ)
column_on is_for grant = if is_for grant then grant.column else None

-- the columns of such grants, as a list
abbrev pub columns_on : (Grant → Bool) → List Grant → List (List ℕ)
columns_on is_for grants = flat_map (λ grant. option_to_list (column_on is_for grant)) grants

-- of a role that isn't granted the whole table: the first of the columns that isn't granted, where others are, or else the
-- privilege
abbrev pub missing_beside : (Grant → Bool) → List Grant → Privilege → List ℕ → List (List ℕ) → Option Why
missing_beside is_for grants privilege table columns =
    if is_of_columns privilege && is_granted_some is_for grants
    then option_map (w.Column privilege table) (slice_get (filter (λ column. not (is_granted_on is_for grants column)) columns) 0)
    else Some (w.Privilege privilege table)

-- the same, by a list of the columns that are granted
abbrev pub missing_outside : List (List ℕ) → Privilege → List ℕ → List (List ℕ) → Option Why
missing_outside granted privilege table columns =
    if is_of_columns privilege && is_some (slice_get granted 0)
    then option_map (w.Column privilege table) (slice_get (filter (λ column. not (one_of granted column)) columns) 0)
    else Some (w.Privilege privilege table)

-- what a role lacks for these columns of the table, which stand in its order
abbrev pub missing_in : Bool → List (List ℕ) → List Grant → Privilege → List ℕ → List (List ℕ) → Option Why
missing_in superuser names grants privilege table columns =
    if superuser || list_any (λ grant. is_whole grant && reaches superuser names privilege grant) grants then None
    else missing_beside (reaches superuser names privilege) grants privilege table columns
