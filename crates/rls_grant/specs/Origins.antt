-- From whom a role has the grant option for a privilege: its grants stand side by side.
use Rattle.std.specs.Prelude.{ℕ, List, [], ◌∷◌, ◌++◌, Option, false, if◌then◌else◌}
use Rattle.rls_value.specs.declared.verb.Privilege.{Privilege}
use Rattle.rls_verdict.specs.rls_expr.specs.declared.policy.Grantee.{Grantee}
use Rattle.rls_verdict.specs.rls_expr.specs.declared.policy.Grantee.TheVariants as g
use Rattle.rls_role.specs.shared_map.specs.Entries.{is_reached}
use Rattle.rls_role.specs.shared_map.specs.Lists.{items_from}
use Rattle.rls_verdict.specs.rls_catalog.specs.{declared.grant.Grant.Grant, GrantKeys.first_key, GrantKeys.key_of, GrantKeys.key_order}
use Rattle.rls_grant.specs.{Considered.is_left_out, GrantedTo.is_to}

-- the grantor, where the grant has the grant option
abbrev pub origin_in : Grant → List (List ℕ)
origin_in grant = if grant.option then (grant.grantor ∷ []) else []

-- the grantors of the first grants that are of the privilege and to the grantee, where these have the grant option
abbrev pub origins_first : Privilege → Grantee → List Grant → List (List ℕ)
origins_first privilege grantee [] = []
origins_first privilege grantee (grant ∷ grants) = if is_to privilege grantee grant then origin_in grant ++ origins_first privilege grantee grants else []

-- the grants from the first one on that can be of the privilege and to the grantee
abbrev pub grants_from : Privilege → Grantee → List Grant → List Grant
grants_from privilege grantee grants = items_from (is_reached (key_order (first_key privilege grantee)) false) key_of grants

-- those that the role has the option from, where the options of one role are left out
abbrev pub origins : Option (List ℕ) → Privilege → List ℕ → List Grant → List (List ℕ)
origins without privilege role grants =
    if is_left_out without (g.Role role) then [] else origins_first privilege (g.Role role) (grants_from privilege (g.Role role) grants)
