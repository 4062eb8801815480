-- CREATE POLICY (PostgreSQL manual, CREATE POLICY): names, then that none of the name is there, then types, then that nothing
-- in it isn't supported, then how many there are, then that the role has the privileges of the table's owner.
use Rattle.std.specs.Prelude.{ℕ, List, [], ◌∷◌, nat_lt, Result, Ok, Err, length, if◌then◌else◌}
use Rattle.rls_value.specs.{declared.refusal.Refusal.Refusal, Giving.and_then, declared.refusal.Refusal.TheVariants.Duplicate, declared.refusal.Refusal.TheVariants.Limit}
use Rattle.rls_value.specs.declared.refusal.DefinedKind.TheVariants as kind
use Rattle.rls_value.specs.declared.refusal.Limit.TheVariants as limit
use Rattle.rls_expr.specs.{declared.table.TableDef.TableDef, declared.policy.Policy.Policy, Resolving.Names, Scopes.InScope}
use Rattle.rls_guard.specs.rls_catalog.specs.declared.change.Change.TheVariants as change
use Rattle.rls_guard.specs.rls_catalog.specs.PolicyLists.{has_policy, with_policy}
use Rattle.rls_statement.specs.declared.statement.CreatePolicy.{CreatePolicy}
use Rattle.rls_guard.specs.{declared.context.Ctx.Ctx, RolePrivileges.ownership, declared.effect.Effect.Effect, Effects.writes}
use Rattle.rls_guard.specs.rls_source.specs.{Askings.Asking, Askings.known, Askings.followed_by, Asked.asked_policies, Named.table_or_undefined, Named.grantees_or_undefined}
use Rattle.rls_guard.specs.Naming.{named, names_over}
use Rattle.rls_ddl.specs.Conditions.{condition_names, condition_fits, is_supported, both_conditions}

-- a policy of the name may not be there
abbrev pub new_or_duplicate : List Policy → List ℕ → Result (Unit {0}) Refusal
new_or_duplicate policies name = if has_policy policies name then Err (Duplicate kind.Policy name) else Ok tt

-- a table has 64 policies at most
abbrev pub room_for_policy : List Policy → Result (Unit {0}) Refusal
room_for_policy policies = if nat_lt (length policies) 64 then Ok tt else Err (Limit limit.Policies)

-- the policy has to be right over its table, beside those that are there
abbrev pub policy_or_refused : Names → List Policy → Policy → Result (Unit {0}) Refusal
policy_or_refused names policies policy =
    and_then (new_or_duplicate policies policy.name) (λ _.
    and_then (both_conditions (condition_fits names) policy.using policy.check) (λ _.
    and_then (both_conditions (is_supported names) policy.using policy.check) (λ _. room_for_policy policies)))

-- the policy is made where the role has the privileges of the table's owner
unfoldable pub policy_made : List ℕ → List ℕ → TableDef → List Policy → Policy → Asking Effect
policy_made role name table policies policy = followed_by (ownership role name table) (λ _.
    known (Ok (writes (change.Policies name (with_policy policies policy) ∷ []))))

-- the policies that are there, and then the new one beside them
unfoldable pub policy_added : List ℕ → List ℕ → TableDef → List InScope → Policy → Asking Effect
policy_added role name table found policy = followed_by (asked_policies name) (λ policies.
    followed_by (known (policy_or_refused (names_over (name, table) found) policies policy)) (λ _. policy_made role name table policies policy))

-- the roles have to be there, and the names to be known
unfoldable pub policy_on : List ℕ → List ℕ → TableDef → Policy → Asking Effect
policy_on role name table policy = followed_by (grantees_or_undefined policy.to) (λ _.
    followed_by (named (condition_names policy.using policy.check) ((name, table) ∷ []) []) (λ found. policy_added role name table found policy))

-- the table has to be there
abbrev pub create_policy : Ctx → CreatePolicy → Asking Effect
create_policy ctx create = followed_by (table_or_undefined create.table) (λ table. policy_on ctx.role create.table table create.policy)
