-- Statements that define write no row, and keep the rows of a state sound.
use Rattle.std.{specs.Prelude.◌≡◌, specs.Prelude.refl, proofs.Common.◌∙◌, specs.Prelude.ℕ, specs.Prelude.List, specs.Prelude.[], specs.Prelude.◌∷◌, specs.Prelude.Bool, specs.Prelude.true, specs.Prelude.false, specs.Prelude.Result, specs.Prelude.Ok, specs.Prelude.Err, specs.Prelude.IfOk, specs.Prelude.is_some, specs.Prelude.map, specs.List.AllByRecursion}
use Rattle.rls_value.specs.{declared.refusal.Refusal.Refusal, declared.refusal.Refusal.TheVariants.Duplicate, Giving.and_then, declared.refusal.DefinedKind.DefinedKind}
use Rattle.rls_expr.specs.{declared.table.TableDef.TableDef, declared.policy.Policy.Policy, Scopes.InScope}
use Rattle.rls_guard.specs.rls_catalog.specs.{declared.change.Change.Change, declared.grant.Grant.Grant, declared.role.RoleDef.RoleDef, Membership.fresh, SoundRows.RowsAreSound, State.State, State.table_of, Changed.changed, Changed.changed_all, PolicyLists.with_policy, PolicyLists.without_policy}
use Rattle.rls_guard.specs.rls_source.specs.{Asked.asked_grants, Asked.asked_policies, Asked.asked_role, Askings.Asking, Askings.asked_if, Askings.followed_by, Askings.known, Named.grantees_or_undefined, Named.role_or_undefined, Named.roles_or_undefined, Named.table_or_undefined}
use Rattle.rls_guard.specs.rls_role.specs.{declared.holding.HeldMembership.HeldMembership, declared.effective_roles.EffectiveRoles.EffectiveRoles, Reaching.effective_roles_of}
use Rattle.rls_guard.specs.rls_role.specs as members
use Rattle.rls_guard.specs.rls_grant.specs as privileges
use Rattle.rls_guard.specs.{declared.context.Ctx.Ctx, declared.effect.Effect.Effect, Checks.superuser_or_denied, Effects.writes, RolePrivileges.ownership, Keeping.IfDone, Keeping.IsNoRow, Keeping.LeavesRows, Keeping.TablesStay, Naming.named, Naming.names_over}
use Rattle.rls_statement.specs.{declared.statement.SetRole.SetRole, declared.statement.AlterPolicy.AlterPolicy, declared.statement.AlterRole.AlterRole, declared.statement.CreatePolicy.CreatePolicy, declared.statement.CreateRole.CreateRole, declared.statement.DropPolicy.DropPolicy, declared.statement.GrantPrivileges.GrantPrivileges, declared.statement.GrantRoles.GrantRoles, declared.statement.RevokePrivileges.RevokePrivileges, declared.statement.RevokeRoles.RevokeRoles}
use Rattle.rls_ddl.specs.{AlteringPolicies.alter_policy, AlteringPolicies.alteration_made, AlteringPolicies.alteration_of, AlteringPolicies.alteration_over, AlteringPolicies.alteration_on, AlteringPolicies.conditions_or_refused, AlteringPolicies.with_altered, AlteringRoles.alter_role, AlteringRoles.role_altered, AlteringRoles.role_changed, Conditions.condition_names, NamedPolicies.policy_or_undefined, CreatingRoles.create_role, CreatingRoles.role_made, CreatingRoles.role_with, DroppingPolicies.drop_on, DroppingPolicies.drop_policy, DroppingPolicies.policy_dropped, CreatingPolicies.create_policy, CreatingPolicies.policy_added, CreatingPolicies.policy_made, CreatingPolicies.policy_on, CreatingPolicies.policy_or_refused, Granting.grant, Granting.grant_roles, Granting.revoke, Granting.revoke_roles, Granting.written, SettingRoles.asked_may_set, SettingRoles.role_set, SettingRoles.set_or_denied, SettingRoles.set_role, AlteringPolicies.roles_or_undefined as policy_roles_or_undefined}

-- ---- one step after another

-- it holds behind a step, whatever the step gives
pub done_then : {A : Type 0} (fact : List Change → Type 0) (given : Result A Refusal) (next : A → Result Effect Refusal) → ((a : A) → IfDone (next a) fact) → IfDone (and_then given next) fact
done_then fact (Ok a) next all = all a
done_then fact (Err refusal) next all = tt

-- the same of a step that gives another value
given_then : {A B : Type 0} (fact : B → Type 0) (given : Result A Refusal) (next : A → Result B Refusal) → ((a : A) → IfOk (next a) fact) → IfOk (and_then given next) fact
given_then fact (Ok a) next all = all a
given_then fact (Err refusal) next all = tt

-- what holds of the changes lets more hold of them
done_more : (fact more : List Change → Type 0) (given : Result Effect Refusal) → ((changes : List Change) → fact changes → more changes) → IfDone given fact → IfDone given more
done_more fact more (Ok (Effect.Done reply decisions changes role)) all is = all changes is
done_more fact more (Ok (Effect.Refused refusal decisions)) all is = tt
done_more fact more (Err refusal) all is = tt

-- ---- neither tables nor rows

-- the change is one of a role, of memberships, of grants or of policies
abbrev IsBeside : Change → Type 0
IsBeside (Change.Table name def) = ⊥
IsBeside (Change.Row change) = ⊥
IsBeside _ = Unit {0}

abbrev AreBeside : List Change → Type 0
AreBeside changes = AllByRecursion IsBeside changes

-- such changes leave sound rows sound
beside_sound : (s : State) (changes : List Change) → RowsAreSound s → AreBeside changes → RowsAreSound (changed_all s changes)
beside_sound s [] sound beside = sound
beside_sound s (Change.Role name def ∷ changes) sound beside = beside_sound (changed s (Change.Role name def)) changes sound beside.1
beside_sound s (Change.Members name content ∷ changes) sound beside = beside_sound (changed s (Change.Members name content)) changes sound beside.1
beside_sound s (Change.Table name def ∷ changes) sound beside = absurd beside.0
beside_sound s (Change.Grants name content ∷ changes) sound beside = beside_sound (changed s (Change.Grants name content)) changes sound beside.1
beside_sound s (Change.Policies name content ∷ changes) sound beside = beside_sound (changed s (Change.Policies name content)) changes sound beside.1
beside_sound s (Change.Row change ∷ changes) sound beside = absurd beside.0

-- none of them is one of a row
beside_no_row : (changes : List Change) → AreBeside changes → AllByRecursion IsNoRow changes
beside_no_row [] beside = tt
beside_no_row (Change.Role name def ∷ changes) beside = (tt, beside_no_row changes beside.1)
beside_no_row (Change.Members name content ∷ changes) beside = (tt, beside_no_row changes beside.1)
beside_no_row (Change.Table name def ∷ changes) beside = absurd beside.0
beside_no_row (Change.Grants name content ∷ changes) beside = (tt, beside_no_row changes beside.1)
beside_no_row (Change.Policies name content ∷ changes) beside = (tt, beside_no_row changes beside.1)
beside_no_row (Change.Row change ∷ changes) beside = absurd beside.0

-- such changes leave the tables
beside_tables : (s : State) (changes : List Change) → AreBeside changes → (name : List ℕ) → table_of (changed_all s changes) name ≡ table_of s name
beside_tables s [] beside name = refl
beside_tables s (Change.Role n def ∷ changes) beside name = beside_tables (changed s (Change.Role n def)) changes beside.1 name
beside_tables s (Change.Members n content ∷ changes) beside name = beside_tables (changed s (Change.Members n content)) changes beside.1 name
beside_tables s (Change.Table n def ∷ changes) beside name = absurd beside.0
beside_tables s (Change.Grants n content ∷ changes) beside name = beside_tables (changed s (Change.Grants n content)) changes beside.1 name
beside_tables s (Change.Policies n content ∷ changes) beside name = beside_tables (changed s (Change.Policies n content)) changes beside.1 name
beside_tables s (Change.Row change ∷ changes) beside name = absurd beside.0

beside_stay : (s : State) (changes : List Change) → AreBeside changes → TablesStay s changes
beside_stay s changes beside name def there = (def, beside_tables s changes beside name ∙ there, refl)

-- a statement whose changes are such ones
abbrev StaysBeside : Asking Effect → Type 0
StaysBeside asking = (s : State) → IfDone (asking.in_state s).gives AreBeside

leaves : (asking : Asking Effect) → StaysBeside asking → LeavesRows asking
leaves asking beside = record {
  writes_none = λ s. done_more AreBeside (AllByRecursion IsNoRow) (asking.in_state s).gives beside_no_row (beside s);
  sound = λ s sound. done_more AreBeside (λ changes. RowsAreSound (changed_all s changes)) (asking.in_state s).gives (λ changes is. beside_sound s changes sound is) (beside s);
  tables = λ s sound. done_more AreBeside (TablesStay s) (asking.in_state s).gives (beside_stay s) (beside s);
}

after_any : {A : Type 0} (first : Asking A) (next : A → Asking Effect) → ((a : A) → StaysBeside (next a)) → StaysBeside (followed_by first next)
after_any first next all = λ s. done_then AreBeside (first.in_state s).gives (λ a. ((next a).in_state s).gives) (λ a. all a s)

-- ---- roles

role_made_beside : (role : List ℕ) (asked : CreateRole) → StaysBeside (role_made role asked)
unfolding role_made
role_made_beside role asked =
    after_any (superuser_or_denied role asked.name) (λ _. known (Ok (writes (Change.Role asked.name (role_with asked.attributes) ∷ [])))) (λ _ s. (tt, tt))

unless_taken : (b : Bool) (refusal : Refusal) (next : Asking Effect) → StaysBeside next → StaysBeside (asked_if b (known (Err refusal)) next)
unless_taken true refusal next beside = λ s. tt
unless_taken false refusal next beside = beside

pub create_role_leaves : (ctx : Ctx) (asked : CreateRole) → LeavesRows (create_role ctx asked)
create_role_leaves ctx asked = leaves (create_role ctx asked) (
    after_any (asked_role asked.name) (λ found. asked_if (is_some found) (known (Err (Duplicate DefinedKind.Role asked.name))) (role_made ctx.role asked)) (λ found.
    unless_taken (is_some found) (Duplicate DefinedKind.Role asked.name) (role_made ctx.role asked) (role_made_beside ctx.role asked)))

role_changed_beside : (role : List ℕ) (asked : AlterRole) (def : RoleDef) → StaysBeside (role_changed role asked def)
unfolding role_changed
role_changed_beside role asked def =
    after_any (superuser_or_denied role asked.name) (λ _. known (Ok (writes (Change.Role asked.name (role_altered asked.attributes def) ∷ [])))) (λ _ s. (tt, tt))

pub alter_role_leaves : (ctx : Ctx) (asked : AlterRole) → LeavesRows (alter_role ctx asked)
alter_role_leaves ctx asked = leaves (alter_role ctx asked) (after_any (role_or_undefined asked.name) (λ def. role_changed ctx.role asked def) (λ def. role_changed_beside ctx.role asked def))

sets_if : (role : List ℕ) (may : Bool) → IfDone (set_or_denied role may) AreBeside
sets_if role true = tt
sets_if role false = tt

role_set_beside : (login role : List ℕ) → StaysBeside (role_set login role)
unfolding role_set
role_set_beside login role = after_any (asked_may_set login role) (λ may. known (set_or_denied role may)) (λ may s. sets_if role may)

set_role_beside : (ctx : Ctx) (asked : SetRole) → StaysBeside (set_role ctx asked)
set_role_beside ctx (SetRole.To role) = after_any (role_or_undefined role) (λ _. role_set ctx.login role) (λ _. role_set_beside ctx.login role)
set_role_beside ctx SetRole.None = λ s. tt
set_role_beside ctx SetRole.Reset = λ s. tt

pub set_role_leaves : (ctx : Ctx) (asked : SetRole) → LeavesRows (set_role ctx asked)
set_role_leaves ctx asked = leaves (set_role ctx asked) (set_role_beside ctx asked)

-- ---- policies

policy_made_beside : (role name : List ℕ) (table : TableDef) (policies : List Policy) (policy : Policy) → StaysBeside (policy_made role name table policies policy)
unfolding policy_made
policy_made_beside role name table policies policy =
    after_any (ownership role name table) (λ _. known (Ok (writes (Change.Policies name (with_policy policies policy) ∷ [])))) (λ _ s. (tt, tt))

policy_added_beside : (role name : List ℕ) (table : TableDef) (found : List InScope) (policy : Policy) → StaysBeside (policy_added role name table found policy)
unfolding policy_added
policy_added_beside role name table found policy =
    after_any (asked_policies name) (λ policies. followed_by (known (policy_or_refused (names_over (name, table) found) policies policy)) (λ _. policy_made role name table policies policy)) (λ policies.
    after_any (known (policy_or_refused (names_over (name, table) found) policies policy)) (λ _. policy_made role name table policies policy) (λ _. policy_made_beside role name table policies policy))

policy_on_beside : (role name : List ℕ) (table : TableDef) (policy : Policy) → StaysBeside (policy_on role name table policy)
unfolding policy_on
policy_on_beside role name table policy =
    let names : Asking (List InScope) = named (condition_names policy.using policy.check) ((name, table) ∷ []) [] in
    after_any (grantees_or_undefined policy.to) (λ _. followed_by names (λ found. policy_added role name table found policy)) (λ _.
    after_any names (λ found. policy_added role name table found policy) (λ found. policy_added_beside role name table found policy))

pub create_policy_leaves : (ctx : Ctx) (asked : CreatePolicy) → LeavesRows (create_policy ctx asked)
create_policy_leaves ctx asked = leaves (create_policy ctx asked) (
    after_any (table_or_undefined asked.table) (λ table. policy_on ctx.role asked.table table asked.policy) (λ table. policy_on_beside ctx.role asked.table table asked.policy))

alteration_made_beside : (role : List ℕ) (table : TableDef) (policies : List Policy) (asked : AlterPolicy) → StaysBeside (alteration_made role table policies asked)
unfolding alteration_made
alteration_made_beside role table policies asked =
    after_any (ownership role asked.table table) (λ _. known (Ok (writes (Change.Policies asked.table (with_altered asked policies) ∷ [])))) (λ _ s. (tt, tt))

alteration_over_beside : (role : List ℕ) (table : TableDef) (found : List InScope) (policies : List Policy) (policy : Policy) (asked : AlterPolicy) → StaysBeside (alteration_over role table found policies policy asked)
unfolding alteration_over
alteration_over_beside role table found policies policy asked =
    after_any (known (conditions_or_refused (names_over (asked.table, table) found) policy.kind asked)) (λ _. alteration_made role table policies asked) (λ _. alteration_made_beside role table policies asked)

alteration_of_beside : (role : List ℕ) (table : TableDef) (policies : List Policy) (policy : Policy) (asked : AlterPolicy) → StaysBeside (alteration_of role table policies policy asked)
unfolding alteration_of
alteration_of_beside role table policies policy asked =
    let names : Asking (List InScope) = named (condition_names asked.using asked.check) ((asked.table, table) ∷ []) [] in
    after_any (policy_roles_or_undefined asked.to) (λ _. followed_by names (λ found. alteration_over role table found policies policy asked)) (λ _.
    after_any names (λ found. alteration_over role table found policies policy asked) (λ found. alteration_over_beside role table found policies policy asked))

alteration_on_beside : (role : List ℕ) (table : TableDef) (asked : AlterPolicy) → StaysBeside (alteration_on role table asked)
unfolding alteration_on
alteration_on_beside role table asked =
    after_any (asked_policies asked.table) (λ policies. followed_by (known (policy_or_undefined policies asked.name)) (λ policy. alteration_of role table policies policy asked)) (λ policies.
    after_any (known (policy_or_undefined policies asked.name)) (λ policy. alteration_of role table policies policy asked) (λ policy.
    alteration_of_beside role table policies policy asked))

pub alter_policy_leaves : (ctx : Ctx) (asked : AlterPolicy) → LeavesRows (alter_policy ctx asked)
alter_policy_leaves ctx asked = leaves (alter_policy ctx asked) (
    after_any (table_or_undefined asked.table) (λ table. alteration_on ctx.role table asked) (λ table. alteration_on_beside ctx.role table asked))

policy_dropped_beside : (role : List ℕ) (table : TableDef) (policies : List Policy) (asked : DropPolicy) → StaysBeside (policy_dropped role table policies asked)
unfolding policy_dropped
policy_dropped_beside role table policies asked =
    after_any (ownership role asked.table table) (λ _. known (Ok (writes (Change.Policies asked.table (without_policy policies asked.name) ∷ [])))) (λ _ s. (tt, tt))

drop_on_beside : (role : List ℕ) (table : TableDef) (asked : DropPolicy) → StaysBeside (drop_on role table asked)
unfolding drop_on
drop_on_beside role table asked =
    after_any (asked_policies asked.table) (λ policies. followed_by (known (policy_or_undefined policies asked.name)) (λ _. policy_dropped role table policies asked)) (λ policies.
    after_any (known (policy_or_undefined policies asked.name)) (λ _. policy_dropped role table policies asked) (λ _. policy_dropped_beside role table policies asked))

pub drop_policy_leaves : (ctx : Ctx) (asked : DropPolicy) → LeavesRows (drop_policy ctx asked)
drop_policy_leaves ctx asked = leaves (drop_policy ctx asked) (
    after_any (table_or_undefined asked.table) (λ table. drop_on ctx.role table asked) (λ table. drop_on_beside ctx.role table asked))

-- ---- GRANT and REVOKE

-- changes that are given are such ones
abbrev GivesBeside : Asking (List Change) → Type 0
GivesBeside asking = (s : State) → IfOk (asking.in_state s).gives AreBeside

given_any : {A : Type 0} (first : Asking A) (next : A → Asking (List Change)) → ((a : A) → GivesBeside (next a)) → GivesBeside (followed_by first next)
given_any first next all = λ s. given_then AreBeside (first.in_state s).gives (λ a. ((next a).in_state s).gives) (λ a. all a s)

written_if : (given : Result (List Change) Refusal) → IfOk given AreBeside → IfDone (and_then given (λ delta. Ok (writes delta))) AreBeside
written_if (Ok delta) beside = beside
written_if (Err refusal) beside = tt

written_leaves : (changes : Asking (List Change)) → GivesBeside changes → LeavesRows (written changes)
written_leaves changes beside = leaves (written changes) (λ s. written_if (changes.in_state s).gives (beside s))

grants_made_beside : (effective_roles : EffectiveRoles) (role : List ℕ) (table : TableDef) (grants : List Grant) (asked : GrantPrivileges) → IfOk (privileges.Granting.grants_made effective_roles role table grants asked) AreBeside
unfolding privileges.Granting.grants_made privileges.Granting.granted
grants_made_beside effective_roles role table grants asked =
    given_then AreBeside (privileges.Grantors.grantors effective_roles role asked.table table grants asked.privileges) (λ by. privileges.Granting.granted table grants by asked) (λ by.
    given_then AreBeside (privileges.Granting.options_or_refused asked.with_option table.owner grants by asked.to) (λ _. Ok (privileges.Granting.grants_with table.columns grants by asked)) (λ _. (tt, tt)))

grant_on_beside : (role : List ℕ) (table : TableDef) (asked : GrantPrivileges) → GivesBeside (privileges.Granting.grant_on role table asked)
unfolding privileges.Granting.grant_on
grant_on_beside role table asked =
    given_any (asked_grants asked.table) (λ grants. followed_by (effective_roles_of role) (λ effective_roles. known (privileges.Granting.grants_made effective_roles role table grants asked))) (λ grants.
    given_any (effective_roles_of role) (λ effective_roles. known (privileges.Granting.grants_made effective_roles role table grants asked)) (λ effective_roles s. grants_made_beside effective_roles role table grants asked))

grant_to_beside : (role : List ℕ) (table : TableDef) (asked : GrantPrivileges) → GivesBeside (privileges.Granting.grant_to role table asked)
unfolding privileges.Granting.grant_to
grant_to_beside role table asked =
    given_any (grantees_or_undefined asked.to) (λ _. followed_by (known (privileges.Columns.option_or_unsupported asked.with_option asked.privileges)) (λ _. privileges.Granting.grant_on role table asked)) (λ _.
    given_any (known (privileges.Columns.option_or_unsupported asked.with_option asked.privileges)) (λ _. privileges.Granting.grant_on role table asked) (λ _. grant_on_beside role table asked))

pub grant_leaves : (ctx : Ctx) (asked : GrantPrivileges) → LeavesRows (grant ctx asked)
grant_leaves ctx asked = written_leaves (privileges.Granting.grant ctx.role asked) (
    given_any (table_or_undefined asked.table) (λ table. followed_by (known (privileges.Columns.columns_or_undefined table.columns asked.privileges)) (λ _. privileges.Granting.grant_to ctx.role table asked)) (λ table.
    given_any (known (privileges.Columns.columns_or_undefined table.columns asked.privileges)) (λ _. privileges.Granting.grant_to ctx.role table asked) (λ _. grant_to_beside ctx.role table asked)))

grants_revoked_beside : (effective_roles : EffectiveRoles) (role : List ℕ) (table : TableDef) (grants : List Grant) (asked : RevokePrivileges) → IfOk (privileges.Revoking.grants_revoked effective_roles role table grants asked) AreBeside
unfolding privileges.Revoking.grants_revoked privileges.Revoking.revoked
grants_revoked_beside effective_roles role table grants asked =
    given_then AreBeside (privileges.Grantors.grantors effective_roles role asked.table table grants asked.privileges) (λ by. privileges.Revoking.revoked table grants by asked) (λ by.
    given_then AreBeside (privileges.Revoking.left_after asked.cascade asked.table table.owner by (privileges.Revoking.without_taken asked by grants))
    (λ left. Ok (privileges.Granting.grants_written asked.table left)) (λ left. (tt, tt)))

revoke_on_beside : (role : List ℕ) (table : TableDef) (asked : RevokePrivileges) → GivesBeside (privileges.Revoking.revoke_on role table asked)
unfolding privileges.Revoking.revoke_on
revoke_on_beside role table asked =
    given_any (asked_grants asked.table) (λ grants. followed_by (effective_roles_of role) (λ effective_roles. known (privileges.Revoking.grants_revoked effective_roles role table grants asked))) (λ grants.
    given_any (effective_roles_of role) (λ effective_roles. known (privileges.Revoking.grants_revoked effective_roles role table grants asked)) (λ effective_roles s. grants_revoked_beside effective_roles role table grants asked))

revoke_from_beside : (role : List ℕ) (table : TableDef) (asked : RevokePrivileges) → GivesBeside (privileges.Revoking.revoke_from role table asked)
unfolding privileges.Revoking.revoke_from
revoke_from_beside role table asked =
    given_any (grantees_or_undefined asked.from) (λ _. followed_by (known (privileges.Columns.option_or_unsupported asked.option_only asked.privileges)) (λ _. privileges.Revoking.revoke_on role table asked)) (λ _.
    given_any (known (privileges.Columns.option_or_unsupported asked.option_only asked.privileges)) (λ _. privileges.Revoking.revoke_on role table asked) (λ _. revoke_on_beside role table asked))

pub revoke_leaves : (ctx : Ctx) (asked : RevokePrivileges) → LeavesRows (revoke ctx asked)
revoke_leaves ctx asked = written_leaves (privileges.Revoking.revoke ctx.role asked) (
    given_any (table_or_undefined asked.table) (λ table. followed_by (known (privileges.Columns.columns_or_undefined table.columns asked.privileges)) (λ _. privileges.Revoking.revoke_from ctx.role table asked)) (λ table.
    given_any (known (privileges.Columns.columns_or_undefined table.columns asked.privileges)) (λ _. privileges.Revoking.revoke_from ctx.role table asked) (λ _. revoke_from_beside ctx.role table asked)))

members_beside : (held : List HeldMembership) → AreBeside (members.Granting.members_written held)
members_beside [] = tt
members_beside (h ∷ held) = (tt, members_beside held)

roles_granted_beside : (role : List ℕ) (asked : GrantRoles) → GivesBeside (members.Granting.roles_granted role asked)
unfolding members.Granting.roles_granted members.Granting.memberships_granted
roles_granted_beside role asked =
    given_any (members.Granting.managed_or_refused role asked.roles) (λ _. members.Granting.memberships_granted asked) (λ _.
    given_any (members.Granting.asked_held (fresh [] asked.to)) (λ held. followed_by (members.Granting.each_granted asked.options asked.roles asked.to held) (λ grown. known (Ok (members.Granting.members_written grown)))) (λ held.
    given_any (members.Granting.each_granted asked.options asked.roles asked.to held) (λ grown. known (Ok (members.Granting.members_written grown))) (λ grown s. members_beside grown)))

pub grant_roles_leaves : (ctx : Ctx) (asked : GrantRoles) → LeavesRows (grant_roles ctx asked)
grant_roles_leaves ctx asked = written_leaves (members.Granting.grant_member ctx.role asked) (
    given_any (roles_or_undefined asked.roles) (λ _. followed_by (roles_or_undefined asked.to) (λ _. members.Granting.roles_granted ctx.role asked)) (λ _.
    given_any (roles_or_undefined asked.to) (λ _. members.Granting.roles_granted ctx.role asked) (λ _. roles_granted_beside ctx.role asked)))

roles_revoked_beside : (role : List ℕ) (asked : RevokeRoles) → GivesBeside (members.Revoking.roles_revoked role asked)
unfolding members.Revoking.roles_revoked members.Revoking.memberships_revoked
roles_revoked_beside role asked =
    given_any (members.Granting.managed_or_refused role asked.roles) (λ _. members.Revoking.memberships_revoked asked) (λ _.
    given_any (members.Granting.asked_held (fresh [] asked.from)) (λ held. known (Ok (members.Granting.members_written (map (members.Revoking.taken_in asked.option asked.roles) held)))) (λ held s.
    members_beside (map (members.Revoking.taken_in asked.option asked.roles) held)))

pub revoke_roles_leaves : (ctx : Ctx) (asked : RevokeRoles) → LeavesRows (revoke_roles ctx asked)
revoke_roles_leaves ctx asked = written_leaves (members.Revoking.revoke_member ctx.role asked) (
    given_any (roles_or_undefined asked.roles) (λ _. followed_by (roles_or_undefined asked.from) (λ _. members.Revoking.roles_revoked ctx.role asked)) (λ _.
    given_any (roles_or_undefined asked.from) (λ _. members.Revoking.roles_revoked ctx.role asked) (λ _. roles_revoked_beside ctx.role asked)))
