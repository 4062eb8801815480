-- The policy expansion of a statement (PostgreSQL manual, 5.8, and CREATE POLICY): the policies of its table that count
-- for its type of command and, where it reads, for SELECT; and, through the subqueries of the statement and of policies, those
-- for SELECT of every table that these lead to. A chain of policies that never ends is refused (42P17).
use Rattle.std.specs.Prelude.{ℕ, List, [], ◌∷◌, ◌++◌, Bool, true, false, Option, Some, None, Result, Ok, Err, if◌then◌else◌}
use Rattle.rls_value.specs.{declared.refusal.Refusal.Refusal, declared.verb.Kind.Kind, Giving.and_then}
use Rattle.rls_value.specs.declared.verb.Kind.TheVariants as k
use Rattle.rls_guard.specs.rls_catalog.specs.rls_expr.specs.{declared.columns.SelectedTable.SelectedTable, declared.policy.Policy.Policy, declared.table.TableDef.TableDef, Scopes.InScope}
use Rattle.rls_recursion.specs.rls_catalog.specs.declared.verdict.Side.{Side}
use Rattle.rls_recursion.specs.rls_catalog.specs.declared.verdict.Side.TheVariants as side
use Rattle.rls_guard.specs.rls_source.specs.Askings.{Asking, known, followed_by}
use Rattle.rls_guard.specs.{declared.role_privileges.RolePrivileges.RolePrivileges, declared.quals.RowCheck.RowCheck, SecurityQuals.row_checks_by}
use Rattle.rls_recursion.specs.{declared.dependency.PolicyDependency.PolicyDependency, declared.searching.Reached.Reached, Searching.ordered_by, Listings.listed}
use Rattle.rls_expansion.specs.{declared.expansion.PolicyExpansion.PolicyExpansion, Policies.policies_for, Dependencies.dependencies_of}
use Rattle.rls_expansion.specs.Relations.{known_in, relations_of}
use Rattle.rls_expansion.specs.Selected.{selected_used, subqueries_in}
use Rattle.rls_expansion.specs.Used.{Ask, tables_used}

-- the command judges rows as they stand
abbrev pub judges_old : Kind → Bool
judges_old k.Select = true
judges_old k.Insert = false
judges_old k.Update = true
judges_old k.Delete = true

-- it judges new rows
abbrev pub judges_new : Kind → Bool
judges_new k.Select = false
judges_new k.Insert = true
judges_new k.Update = true
judges_new k.Delete = false

-- what policies are asked for on one side: the type of command and, where it reads, SELECT
abbrev pub asks_on : Bool → Kind → Bool → Side → List Ask
asks_on false kind reads which = []
asks_on true kind reads which = (kind, which) ∷ (if reads then (k.Select, which) ∷ [] else [])

-- on both sides
abbrev pub asks_of : Kind → Bool → List Ask
asks_of kind reads = asks_on (judges_old kind) kind reads side.Old ++ asks_on (judges_new kind) kind reads side.New

-- the tables that the policies of the statement's table lead to
abbrev pub own_tables : RolePrivileges → Kind → Bool → Option (List Policy) → List (List ℕ)
own_tables role_privileges kind reads None = []
own_tables role_privileges kind reads (Some policies) = tables_used role_privileges.effective_roles.superuser role_privileges.effective_roles.names (asks_of kind reads) policies

-- the tables of the subqueries in what the policies of the statement's table are asked for, with their columns
abbrev pub own_selected : RolePrivileges → Kind → Bool → InScope → List InScope → Option (List Policy) → List SelectedTable
own_selected role_privileges kind reads from found None = []
own_selected role_privileges kind reads from found (Some policies) = selected_used role_privileges.effective_roles.superuser role_privileges.effective_roles.names (asks_of kind reads) from found policies

-- the checks of the rows of one side, where the command judges it
abbrev pub row_checks_if : Bool → RolePrivileges → Kind → Bool → InScope → List InScope → Option (List Policy) → Side → List RowCheck
row_checks_if false role_privileges kind reads from found policies which = []
row_checks_if true role_privileges kind reads from found policies which = row_checks_by role_privileges kind reads from found policies which

-- what is made of the dependencies
abbrev pub expanded_from : RolePrivileges → Kind → Bool → InScope → Option (List Policy) → List PolicyDependency → Reached → PolicyExpansion
expanded_from role_privileges kind reads from policies dependencies reached = record {
  old = row_checks_if (judges_old kind) role_privileges kind reads from (known_in dependencies) policies side.Old;
  new = row_checks_if (judges_new kind) role_privileges kind reads from (known_in dependencies) policies side.New;
  relations = relations_of (known_in dependencies) dependencies reached.secured;
  tables = reached.tables;
  own = own_selected role_privileges kind reads from (known_in dependencies) policies;
  subqueries = subqueries_in (known_in dependencies) dependencies;
}

-- the same, unless a chain of policies never ends
abbrev pub expansion_by : RolePrivileges → Kind → Bool → InScope → Option (List Policy) → List (List ℕ) → List PolicyDependency → Result PolicyExpansion Refusal
expansion_by role_privileges kind reads from policies queries dependencies =
    and_then (ordered_by dependencies from.0 (own_tables role_privileges kind reads policies) queries) (λ reached. Ok (expanded_from role_privileges kind reads from policies dependencies reached))

-- the dependencies are read, those that the policies lead to first
unfoldable pub past_policies : RolePrivileges → List ℕ → TableDef → Kind → Bool → List (List ℕ) → Option (List Policy) → Asking PolicyExpansion
past_policies role_privileges name table kind reads queries policies = followed_by (dependencies_of role_privileges (own_tables role_privileges kind reads policies ++ queries)) (λ dependencies.
    known (expansion_by role_privileges kind reads (name, table) policies queries dependencies))

-- the policy expansion of a statement of that type on the table, whose own subqueries are over those tables
unfoldable pub expansion_of : RolePrivileges → List ℕ → TableDef → Kind → Bool → List (List ℕ) → Asking PolicyExpansion
expansion_of role_privileges name table kind reads queries = followed_by (policies_for role_privileges name table) (past_policies role_privileges name table kind reads queries)

-- ---- what the role is asked for

-- the tables whose columns SELECT is asked for: those of the statement's own subqueries, and all that they and the policies lead
-- to
abbrev pub permission_checks : PolicyExpansion → List SelectedTable → List SelectedTable
permission_checks expansion queries = listed expansion.subqueries expansion.own queries
