-- DROP POLICY (PostgreSQL manual, DROP POLICY): that the policy is there, then that the role has the privileges of the table's owner.
use Rattle.std.specs.Prelude.{ℕ, List, [], ◌∷◌, Ok}
use Rattle.rls_expr.specs.{declared.table.TableDef.TableDef, declared.policy.Policy.Policy}
use Rattle.rls_guard.specs.rls_catalog.specs.declared.change.Change.TheVariants as change
use Rattle.rls_guard.specs.rls_catalog.specs.PolicyLists.{without_policy}
use Rattle.rls_statement.specs.declared.statement.DropPolicy.{DropPolicy}
use Rattle.rls_guard.specs.{declared.context.Ctx.Ctx, RolePrivileges.ownership, declared.effect.Effect.Effect, Effects.writes}
use Rattle.rls_guard.specs.rls_source.specs.Askings.{Asking, known, followed_by}
use Rattle.rls_guard.specs.rls_source.specs.{Asked.asked_policies, Named.table_or_undefined}
use Rattle.rls_ddl.specs.NamedPolicies.{policy_or_undefined}

-- the policy goes where the role has the privileges of the table's owner
unfoldable pub policy_dropped : List ℕ → TableDef → List Policy → DropPolicy → Asking Effect
policy_dropped role table policies drop = followed_by (ownership role drop.table table) (λ _.
    known (Ok (writes (change.Policies drop.table (without_policy policies drop.name) ∷ []))))

-- the policies that are there, among them the one of the name
unfoldable pub drop_on : List ℕ → TableDef → DropPolicy → Asking Effect
drop_on role table drop = followed_by (asked_policies drop.table) (λ policies.
    followed_by (known (policy_or_undefined policies drop.name)) (λ _. policy_dropped role table policies drop))

-- the table has to be there
abbrev pub drop_policy : Ctx → DropPolicy → Asking Effect
drop_policy ctx drop = followed_by (table_or_undefined drop.table) (λ table. drop_on ctx.role table drop)
