-- Grant options by their grantors: an index of those to whom each handed the option on.
use Rattle.std.specs.Prelude.{◌≡◌, ℕ, List, Option, Some, None, ◌&&◌, if◌then◌else◌}
use Rattle.std.specs.BTreeMap.{is_at}
use Rattle.std.specs.Map.{lookup}
use Rattle.rls_value.specs.declared.verb.Privilege.{Privilege}
use Rattle.rls_verdict.specs.rls_expr.specs.declared.policy.Grantee.{Grantee}
use Rattle.rls_verdict.specs.rls_expr.specs.declared.policy.Grantee.TheVariants as g
use Rattle.rls_verdict.specs.rls_catalog.specs.declared.grant.Grant.{Grant}
use Rattle.rls_verdict.specs.rls_catalog.specs.Privileges.{is_same_privilege, optioned_by}
use Rattle.rls_verdict.specs.rls_catalog.specs.State.{name_order, or_none}

-- the role that a grantee is; PUBLIC is none
abbrev pub role_in : Grantee → Option (List ℕ)
role_in g.Public = None
role_in (g.Role name) = Some name

-- to whom the grant hands the option for the privilege on
abbrev pub handed_to : Privilege → Grant → Option (List ℕ)
handed_to privilege grant = if grant.option && is_same_privilege grant.privilege privilege then role_in grant.grantee else None

-- what an index has under the name
abbrev pub under : List ℕ → List (List ℕ × List (List ℕ)) → List (List ℕ)
under name index = or_none (lookup (is_at (name_order name)) index)

-- under each grantor the index has those to whom it granted the option
abbrev pub HandsOn : List (List ℕ × List (List ℕ)) → List Grant → Privilege → Type 0
HandsOn index grants privilege = (grantor : List ℕ) → under grantor index ≡ optioned_by grants privilege grantor
