-- The grants of a privilege to one grantee stand side by side.
use Rattle.std.specs.Prelude.{List, [], ◌∷◌, Bool, false, ◌&&◌, ◌||◌, if◌then◌else◌}
use Rattle.std.specs.List.{list_any}
use Rattle.rls_value.specs.declared.verb.Privilege.{Privilege}
use Rattle.rls_verdict.specs.rls_expr.specs.declared.policy.Grantee.{Grantee}
use Rattle.rls_verdict.specs.rls_catalog.specs.{declared.grant.Grant.Grant, Privileges.is_same_privilege, Privileges.is_whole, GrantOptions.is_same_grantee}

-- the grant is of the privilege, to the grantee
abbrev pub is_to : Privilege → Grantee → Grant → Bool
is_to privilege grantee grant = is_same_privilege grant.privilege privilege && is_same_grantee grant.grantee grantee

-- the grantee has a grant of the privilege on the whole table
abbrev pub has_whole : Privilege → Grantee → List Grant → Bool
has_whole privilege grantee grants = list_any (λ grant. is_whole grant && is_to privilege grantee grant) grants

-- the first grants that are of the privilege and to the grantee
abbrev pub first_to : Privilege → Grantee → List Grant → List Grant
first_to privilege grantee [] = []
first_to privilege grantee (grant ∷ grants) = if is_to privilege grantee grant then grant ∷ first_to privilege grantee grants else []

-- the grant has its grant option
abbrev pub is_grantable : Grant → Bool
is_grantable grant = grant.option

-- the grantee has a grant of the privilege with its grant option
abbrev pub has_option : Privilege → Grantee → List Grant → Bool
has_option privilege grantee grants = list_any (λ grant. is_grantable grant && is_to privilege grantee grant) grants

-- some grant passes among the first ones that are of the privilege and to the grantee
abbrev pub is_among_first : (Grant → Bool) → Privilege → Grantee → List Grant → Bool
is_among_first test privilege grantee [] = false
is_among_first test privilege grantee (grant ∷ grants) = is_to privilege grantee grant && (test grant || is_among_first test privilege grantee grants)
