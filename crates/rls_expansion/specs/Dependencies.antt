-- The dependencies: each table that the chains of policies meet, once, with what is read for it.
use Rattle.std.specs.Prelude.{◌≡◌, ℕ, List, [], ◌∷◌, Option, Some, None, Bool, true, false, Result, Ok, Err}
use Rattle.std.specs.List.{list_any}
use Rattle.std.proofs.Common.{ap, subst}
use Rattle.rls_value.specs.declared.refusal.Refusal.{Refusal}
use Rattle.rls_value.specs.declared.verb.Kind.TheVariants as k
use Rattle.rls_guard.specs.rls_catalog.specs.rls_expr.specs.{declared.table.TableDef.TableDef, declared.policy.Policy.Policy}
use Rattle.rls_recursion.specs.rls_catalog.specs.declared.verdict.Side.TheVariants as side
use Rattle.rls_recursion.specs.rls_catalog.specs.{Membership.fresh, Membership.Within, State.State, Verdict.chosen, Verdict.exempts}
use Rattle.rls_guard.specs.rls_source.specs.{Asked.asked_policies, Asked.asked_table, Asked.policies_at, Asked.table_at, Askings.Asking, Askings.asked_if, Askings.followed_by, Askings.known}
use Rattle.rls_guard.specs.{declared.role_privileges.RolePrivileges.RolePrivileges, RolePrivileges.has_owner}
use Rattle.rls_recursion.specs.declared.dependency.PolicyDependency.{PolicyDependency}
use Rattle.rls_expansion.specs.{Enough.LeadsWithin, Enough.asked_all, Policies.policies_for, Leading.named, Leading.none_within, Leading.used_named, Used.Ask, Used.holds_subquery, Used.tables_used}

-- who reads a table judges its rows for SELECT
abbrev pub reading : List Ask
reading = (k.Select, side.Old) ∷ []

-- a table that isn't there shows nothing
abbrev pub absent : List ℕ → PolicyDependency
absent table = record { table = table; known = None; policies = Some []; has_subquery = false; subquery_tables = [] }

-- a table with the policies that apply, whether they hold a subquery, and the tables that they lead to
abbrev pub there : List ℕ → TableDef → Option (List Policy) → Bool → List (List ℕ) → PolicyDependency
there table def policies has_subquery subquery_tables = record { table = table; known = Some (table, def); policies = policies; has_subquery = has_subquery; subquery_tables = subquery_tables }

-- a table with these policies
abbrev pub with_quals : RolePrivileges → List ℕ → TableDef → List Policy → PolicyDependency
with_quals role_privileges table def policies =
    there table def (Some (chosen role_privileges.effective_roles.superuser role_privileges.effective_roles.names k.Select side.Old policies))
    (list_any holds_subquery (chosen role_privileges.effective_roles.superuser role_privileges.effective_roles.names k.Select side.Old policies))
    (tables_used role_privileges.effective_roles.superuser role_privileges.effective_roles.names reading policies)

-- the same, unless row security doesn't apply
abbrev pub dependency_by : RolePrivileges → List ℕ → TableDef → Option (List Policy) → PolicyDependency
dependency_by role_privileges table def None = there table def None false []
dependency_by role_privileges table def (Some policies) = with_quals role_privileges table def policies

-- a table that is there: its policies are read, unless the role is exempt
unfoldable pub dependency_in : RolePrivileges → List ℕ → TableDef → Asking PolicyDependency
dependency_in role_privileges table def = followed_by (policies_for role_privileges table def) (λ policies. known (Ok (dependency_by role_privileges table def policies)))

-- a table, by what was found under its name
abbrev pub dependency_if : RolePrivileges → List ℕ → Option TableDef → Asking PolicyDependency
dependency_if role_privileges table (Some def) = dependency_in role_privileges table def
dependency_if role_privileges table None = known (Ok (absent table))

-- the table is read, and then its policies
unfoldable pub dependency_of : RolePrivileges → List ℕ → Asking PolicyDependency
dependency_of role_privileges table = followed_by (asked_table table) (dependency_if role_privileges table)

-- the dependency that is told
abbrev told_or : PolicyDependency → Result PolicyDependency Refusal → PolicyDependency
told_or other (Ok dependency) = dependency
told_or other (Err refusal) = other

told_within : (s : State) (dependency told : PolicyDependency) → ◌≡◌ {A = Result PolicyDependency Refusal} (Ok told) (Ok dependency) → Within told.subquery_tables (named s) → Within dependency.subquery_tables (named s)
told_within s dependency told same within = subst (λ r. Within r.subquery_tables (named s)) (ap (told_or told) same) within

by_within : (exempt : Bool) (role_privileges : RolePrivileges) (s : State) (table : List ℕ) (def : TableDef) (dependency : PolicyDependency)
    → ((followed_by (asked_if exempt (known (Ok None)) (followed_by (asked_policies table) (λ policies. known (Ok (Some policies))))) (λ policies. known (Ok (dependency_by role_privileges table def policies)))).in_state s).gives ≡ Ok dependency
    → Within dependency.subquery_tables (named s)
unfolding policies_at
by_within true role_privileges s table def dependency told = told_within s dependency (dependency_by role_privileges table def None) told (none_within (named s))
by_within false role_privileges s table def dependency told =
    told_within s dependency (dependency_by role_privileges table def (Some (policies_at s table))) told (used_named s table role_privileges.effective_roles.superuser role_privileges.effective_roles.names reading)

found_within : (found : Option TableDef) (role_privileges : RolePrivileges) (s : State) (table : List ℕ) (dependency : PolicyDependency) → ((dependency_if role_privileges table found).in_state s).gives ≡ Ok dependency → Within dependency.subquery_tables (named s)
unfolding dependency_in policies_for
found_within None role_privileges s table dependency told = told_within s dependency (absent table) told (none_within (named s))
found_within (Some def) role_privileges s table dependency told = by_within (exempts role_privileges.attributes def (has_owner role_privileges def)) role_privileges s table def dependency told

pub dependencies_lead : (role_privileges : RolePrivileges) → LeadsWithin (dependency_of role_privileges) (λ dependency. dependency.subquery_tables) named
unfolding dependency_of
dependencies_lead role_privileges s table dependency told = found_within (table_at s table) role_privileges s table dependency told

-- the dependencies of tables, and of those that they lead to, each once, in the order in which they are met
unfoldable pub dependencies_of : RolePrivileges → List (List ℕ) → Asking (List PolicyDependency)
dependencies_of role_privileges tables = asked_all (dependency_of role_privileges) (λ dependency. dependency.subquery_tables) named (dependencies_lead role_privileges) (fresh [] tables)
