-- ALTER POLICY (PostgreSQL manual, ALTER POLICY): that the policy is there, names, then types, then what isn't supported,
-- and what a policy of its kind has no place for, then that the role has the privileges of the table's owner. What is written changes, the rest stays.
use Rattle.std.specs.Prelude.{ℕ, List, [], ◌∷◌, Option, Some, None, Bool, false, Result, Ok, Err, is_some, unwrap_or, map, if◌then◌else◌}
use Rattle.std.specs.Option.{option_or}
use Rattle.rls_value.specs.{declared.refusal.Refusal.Refusal, declared.refusal.Refusal.TheVariants.Unsupported, declared.verb.PolicyKind.PolicyKind, Giving.and_then, declared.verb.PolicyKind.TheVariants.All, declared.verb.PolicyKind.TheVariants.Only}
use Rattle.rls_value.specs.declared.verb.Kind.TheVariants as k
use Rattle.rls_expr.specs.{declared.table.TableDef.TableDef, declared.policy.Grantee.Grantee, declared.policy.Policy.Policy, Resolving.Names, Scopes.InScope}
use Rattle.rls_guard.specs.rls_catalog.specs.declared.change.Change.TheVariants as change
use Rattle.rls_guard.specs.rls_catalog.specs.PolicyLists.{is_named}
use Rattle.rls_statement.specs.declared.statement.AlterPolicy.{AlterPolicy}
use Rattle.rls_guard.specs.{declared.context.Ctx.Ctx, RolePrivileges.ownership, declared.effect.Effect.Effect, Effects.writes, Naming.named, Naming.names_over}
use Rattle.rls_guard.specs.rls_source.specs.{Askings.Asking, Askings.known, Askings.followed_by, Asked.asked_policies, Named.table_or_undefined, Named.grantees_or_undefined}
use Rattle.rls_ddl.specs.{Conditions.condition_names, Conditions.condition_fits, Conditions.is_supported, Conditions.both_conditions, NamedPolicies.policy_or_undefined}

-- the roles that are written behind TO have to be there
abbrev pub roles_or_undefined : Option (List Grantee) → Asking (Unit {0})
roles_or_undefined None = known (Ok tt)
roles_or_undefined (Some to) = grantees_or_undefined to

-- an INSERT policy has no USING, a SELECT or DELETE policy no WITH CHECK
abbrev pub has_no_place_for : PolicyKind → AlterPolicy → Bool
has_no_place_for All alter = false
has_no_place_for (Only k.Select) alter = is_some alter.check
has_no_place_for (Only k.Insert) alter = is_some alter.using
has_no_place_for (Only k.Update) alter = false
has_no_place_for (Only k.Delete) alter = is_some alter.check

-- not supported where the policy's type of command has no place for a written part
abbrev pub resolved_or_unsupported : PolicyKind → AlterPolicy → Result (Unit {0}) Refusal
resolved_or_unsupported kind alter = if has_no_place_for kind alter then Err Unsupported else Ok tt

-- the conditions that are written have to be right over the table, and for a policy of that kind
abbrev pub conditions_or_refused : Names → PolicyKind → AlterPolicy → Result (Unit {0}) Refusal
conditions_or_refused names kind alter =
    and_then (both_conditions (condition_fits names) alter.using alter.check) (λ _.
    and_then (both_conditions (is_supported names) alter.using alter.check) (λ _. resolved_or_unsupported kind alter))

-- the policy with what is written
abbrev pub altered : AlterPolicy → Policy → Policy
altered alter policy = record policy { to = unwrap_or alter.to policy.to; using = option_or alter.using policy.using; check = option_or alter.check policy.check }

-- the policy of that name altered, each other one as it is
abbrev pub altered_if_named : AlterPolicy → Policy → Policy
altered_if_named alter policy = if is_named alter.name policy then altered alter policy else policy

-- the policies with that one altered, each in its place
abbrev pub with_altered : AlterPolicy → List Policy → List Policy
with_altered alter policies = map (altered_if_named alter) policies

-- the policy is altered where the role has the privileges of the table's owner
unfoldable pub alteration_made : List ℕ → TableDef → List Policy → AlterPolicy → Asking Effect
alteration_made role table policies alter = followed_by (ownership role alter.table table) (λ _.
    known (Ok (writes (change.Policies alter.table (with_altered alter policies) ∷ []))))

-- what is written has to be right for the policy
unfoldable pub alteration_over : List ℕ → TableDef → List InScope → List Policy → Policy → AlterPolicy → Asking Effect
alteration_over role table found policies policy alter =
    followed_by (known (conditions_or_refused (names_over (alter.table, table) found) policy.kind alter)) (λ _. alteration_made role table policies alter)

-- the roles have to be there, and the names to be known
unfoldable pub alteration_of : List ℕ → TableDef → List Policy → Policy → AlterPolicy → Asking Effect
alteration_of role table policies policy alter = followed_by (roles_or_undefined alter.to) (λ _.
    followed_by (named (condition_names alter.using alter.check) ((alter.table, table) ∷ []) []) (λ found. alteration_over role table found policies policy alter))

-- the policies that are there, among them the one of the name
unfoldable pub alteration_on : List ℕ → TableDef → AlterPolicy → Asking Effect
alteration_on role table alter = followed_by (asked_policies alter.table) (λ policies.
    followed_by (known (policy_or_undefined policies alter.name)) (λ policy. alteration_of role table policies policy alter))

-- the table has to be there
abbrev pub alter_policy : Ctx → AlterPolicy → Asking Effect
alter_policy ctx alter = followed_by (table_or_undefined alter.table) (λ table. alteration_on ctx.role table alter)
