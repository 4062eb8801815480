-- Who grants and revokes privileges on a table (PostgreSQL manual, GRANT and REVOKE): each privilege has its own grantor.
use Rattle.std.specs.Prelude.{ℕ, List, [], ◌∷◌, Option, Some, None, Bool, ◌||◌, Result, Ok, Err, if◌then◌else◌, filter}
use Rattle.rls_value.specs.{Names.one_of, declared.verb.Privilege.Privilege, declared.refusal.Refusal.Refusal, declared.refusal.Refusal.TheVariants.Denied, declared.refusal.Why.TheVariants.GrantOption}
use Rattle.rls_value.specs.declared.verb.Privilege.TheVariants as p
use Rattle.rls_verdict.specs.rls_expr.specs.declared.table.TableDef.{TableDef}
use Rattle.rls_verdict.specs.rls_catalog.specs.{declared.grant.Grant.Grant, Verdict.least}
use Rattle.rls_role.specs.rls_source.specs.Sequences.{each_of}
use Rattle.rls_role.specs.rls_statement.specs.{declared.privileges.Privileges.Privileges, Extents.is_named}
use Rattle.rls_role.specs.declared.effective_roles.EffectiveRoles.{EffectiveRoles}
use Rattle.rls_grant.specs.{declared.grantors.Grantor.Grantor, Holders.holders_of}

-- in this order they are granted, revoked and refused
abbrev pub all_privileges : List Privilege
all_privileges = p.Select ∷ p.Insert ∷ p.Update ∷ p.Delete ∷ []

-- the owner, where the role has its privileges; else the role itself, where it holds the grant option; else the
-- byte-least role whose privileges it has and that holds it; the test tells who holds it
abbrev pub grantor_by : EffectiveRoles → List ℕ → List ℕ → (List ℕ → Bool) → Option (List ℕ)
grantor_by effective_roles role owner holds =
    if effective_roles.superuser || one_of effective_roles.names owner then Some owner
    else (if holds role then Some role else least None (filter holds effective_roles.names))

-- the privilege with its grantor, who has to be there
abbrev pub grantor_or_denied : List ℕ → Privilege → Option (List ℕ) → Result Grantor Refusal
grantor_or_denied table privilege (Some name) = Ok (record { privilege = privilege; name = name })
grantor_or_denied table privilege None = Err (Denied (GrantOption privilege table))

-- who grants the privilege, by the grants that are there
abbrev pub granted_by : EffectiveRoles → List ℕ → List ℕ → TableDef → List Grant → Privilege → Result Grantor Refusal
granted_by effective_roles role name table grants privilege = grantor_or_denied name privilege (grantor_by effective_roles role table.owner (one_of (holders_of table.owner grants privilege)))

-- who grants each of the privileges that are named; the first without a grantor is denied
unfoldable pub grantors : EffectiveRoles → List ℕ → List ℕ → TableDef → List Grant → Privileges → Result (List Grantor) Refusal
grantors effective_roles role name table grants named = each_of (granted_by effective_roles role name table grants) (filter (is_named named) all_privileges)
