-- GRANT of privileges on a table, or on columns of it (PostgreSQL manual, GRANT): each privilege to each grantee, in one place
-- each.
use Rattle.std.specs.Prelude.{ℕ, List, [], ◌∷◌, Option, None, Bool, false, ◌||◌, not, Result, Ok, Err, if◌then◌else◌, map}
use Rattle.std.specs.List.{flat_map, list_any}
use Rattle.std.specs.Ordering.{nat_cmp, ordering_then, is_eq, is_lt}
use Rattle.std.specs.declared.cmp.Ordering.{Ordering}
use Rattle.std.specs.declared.cmp.Ordering.TheVariants.{Less, Equal, Greater}
use Rattle.rls_value.specs.{Giving.and_then, Names.one_of, declared.verb.Privilege.Privilege, declared.refusal.Refusal.Refusal, declared.refusal.Refusal.TheVariants.GrantOp, declared.refusal.GrantFault.TheVariants.PublicOption, declared.refusal.GrantFault.TheVariants.Back}
use Rattle.rls_verdict.specs.rls_expr.specs.{declared.table.Column.Column, declared.table.TableDef.TableDef, declared.policy.Grantee.Grantee}
use Rattle.rls_verdict.specs.rls_catalog.specs.{declared.change.Change.Change, declared.grant.Grant.Grant, GrantOptions.without_options_of, State.name_order}
use Rattle.rls_role.specs.rls_source.specs.{Asked.asked_grants, Named.table_or_undefined, Named.grantees_or_undefined, Sequences.each_or_refused, Sequences.put_before, Askings.Asking, Askings.known, Askings.followed_by}
use Rattle.rls_role.specs.rls_statement.specs.{declared.statement.GrantPrivileges.GrantPrivileges, Extents.extent_of, Extents.granted_on}
use Rattle.rls_role.specs.{Reaching.effective_roles_of, declared.effective_roles.EffectiveRoles.EffectiveRoles}
use Rattle.rls_grant.specs.{declared.grantors.Grantor.Grantor, Columns.column_place, Columns.columns_or_undefined, Columns.option_or_unsupported, Holders.holders_of, Grantors.all_privileges, Grantors.grantors}

-- ---- where a grant stands among the others

-- the place of a privilege among the four
abbrev pub place_of : Privilege → ℕ
place_of Privilege.Select = 0
place_of Privilege.Insert = 1
place_of Privilege.Update = 2
place_of Privilege.Delete = 3

-- PUBLIC stands before every role
abbrev pub grantee_order : Grantee → Grantee → Ordering
grantee_order Grantee.Public Grantee.Public = Equal
grantee_order Grantee.Public (Grantee.Role name) = Less
grantee_order (Grantee.Role name) Grantee.Public = Greater
grantee_order (Grantee.Role name) (Grantee.Role other) = name_order name other

-- by privilege, then by grantee, then by grantor, then by the column's place; the whole table comes first
abbrev pub grant_order : Grant → Grant → Ordering
grant_order grant other =
    ordering_then (nat_cmp (place_of grant.privilege) (place_of other.privilege))
    (ordering_then (grantee_order grant.grantee other.grantee)
    (ordering_then (name_order grant.grantor other.grantor) (nat_cmp grant.place other.place)))

-- it is the same grant, its grant option aside
abbrev pub is_there : List Grant → Grant → Bool
is_there grants grant = list_any (λ other. is_eq (grant_order other grant)) grants

-- the grant option of a grant that is there stays, and that of the new one is added
abbrev pub with_grant_option : Grant → Grant → Grant
with_grant_option grant other = if is_eq (grant_order other grant) then record other { option = other.option || grant.option } else other

-- the grant in its place
abbrev pub with_grant : List Grant → Grant → List Grant
with_grant grants grant =
    if is_there grants grant then map (with_grant_option grant) grants else put_before (λ other. is_lt (grant_order grant other)) grant grants

-- grants put in, one after another
abbrev pub with_grants : List Grant → List Grant → List Grant
with_grants grants [] = grants
with_grants grants (grant ∷ more) = with_grants (with_grant grants grant) more

-- ---- what is granted

-- a grant on the column, or on the whole table
abbrev pub new_grant : List Column → Bool → Grantor → Grantee → Option (List ℕ) → Grant
new_grant columns option grantor grantee column = record { privilege = grantor.privilege; grantee = grantee; grantor = grantor.name; option = option; column = column; place = column_place columns column }

-- the owner's own grants, which a table has from the start
abbrev pub own_grant : List ℕ → Privilege → Grant
own_grant owner privilege = record { privilege = privilege; grantee = Grantee.Role owner; grantor = owner; option = false; column = None; place = 0 }

-- the owner's own grants of all privileges
abbrev pub own_grants : List ℕ → List Grant
own_grants owner = map (own_grant owner) all_privileges

-- to each grantee, on each of these
abbrev pub grants_on : List Column → Bool → Grantor → List Grantee → List (Option (List ℕ)) → List Grant
grants_on columns option grantor grantees on = flat_map (λ grantee. map (new_grant columns option grantor grantee) on) grantees

-- a privilege to each grantee: on the table as a whole, where it is named so, and on each column
abbrev pub grants_by : List Column → GrantPrivileges → Grantor → List Grant
grants_by columns asked grantor = grants_on columns asked.with_option grantor asked.to (granted_on (extent_of asked.privileges grantor.privilege))

-- ---- to whom the grant option may go

-- without the grantee's own grant options the grantor wouldn't hold the option
abbrev pub goes_back : List ℕ → List Grant → Privilege → List ℕ → List ℕ → Bool
goes_back owner grants privilege grantor grantee = not (one_of (holders_of owner (without_options_of grantee grants) privilege) grantor)

-- refused where it goes back to whom the grantor has it from
abbrev pub forth_or_refused : List ℕ → List Grant → List ℕ → Grantor → Result (Unit {0}) Refusal
forth_or_refused owner grants grantee grantor = if goes_back owner grants grantor.privilege grantor.name grantee then Err (GrantOp (Back grantee)) else Ok tt

-- not to PUBLIC, and not back to whom one of the grantors has it from
abbrev pub optioned_or_refused : List ℕ → List Grant → List Grantor → Grantee → Result (Unit {0}) Refusal
optioned_or_refused owner grants by Grantee.Public = Err (GrantOp PublicOption)
optioned_or_refused owner grants by (Grantee.Role name) = each_or_refused (forth_or_refused owner grants name) by

-- the grantees in order, by the grants that are there
abbrev pub options_or_refused : Bool → List ℕ → List Grant → List Grantor → List Grantee → Result (Unit {0}) Refusal
options_or_refused option owner grants by grantees = if option then each_or_refused (optioned_or_refused owner grants by) grantees else Ok tt

-- ---- the statement

-- all grants on the table, as they are from now on
abbrev pub grants_written : List ℕ → List Grant → List Change
grants_written table grants = Change.Grants table grants ∷ []

-- the grants that are there, with each privilege to each grantee
abbrev pub grants_with : List Column → List Grant → List Grantor → GrantPrivileges → List Change
grants_with columns grants by asked = grants_written asked.table (with_grants grants (flat_map (grants_by columns asked) by))

-- what GRANT changes: the options may be granted, then each grant is put in
unfoldable pub granted : TableDef → List Grant → List Grantor → GrantPrivileges → Result (List Change) Refusal
granted table grants by asked = and_then (options_or_refused asked.with_option table.owner grants by asked.to) (λ _. Ok (grants_with table.columns grants by asked))

-- each privilege has to have a grantor; then the grant option has to be one that may go to the grantees
unfoldable pub grants_made : EffectiveRoles → List ℕ → TableDef → List Grant → GrantPrivileges → Result (List Change) Refusal
grants_made effective_roles role table grants asked = and_then (grantors effective_roles role asked.table table grants asked.privileges) (λ by. granted table grants by asked)

-- the grants that are there, and whose privileges the role has
unfoldable pub grant_on : List ℕ → TableDef → GrantPrivileges → Asking (List Change)
grant_on role table asked = followed_by (asked_grants asked.table) (λ grants.
    followed_by (effective_roles_of role) (λ effective_roles. known (grants_made effective_roles role table grants asked)))

-- the grantees have to be there, and no grant option is granted on columns
unfoldable pub grant_to : List ℕ → TableDef → GrantPrivileges → Asking (List Change)
grant_to role table asked = followed_by (grantees_or_undefined asked.to) (λ _.
    followed_by (known (option_or_unsupported asked.with_option asked.privileges)) (λ _. grant_on role table asked))

-- the table, the columns and the grantees have to be there
abbrev pub grant : List ℕ → GrantPrivileges → Asking (List Change)
grant role asked = followed_by (table_or_undefined asked.table) (λ table.
    followed_by (known (columns_or_undefined table.columns asked.privileges)) (λ _. grant_to role table asked))
