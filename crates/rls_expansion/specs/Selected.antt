-- The tables of the subqueries in the expressions that policies are asked for, each with the columns that the subquery
-- mentions. What a policy says of its own table's columns isn't among them.
use Rattle.std.specs.Prelude.{ℕ, List, [], ◌∷◌, ◌++◌, Option, Some, None, Bool, if◌then◌else◌, map}
use Rattle.std.specs.List.{list_any}
use Rattle.rls_value.specs.declared.verb.Kind.{Kind}
use Rattle.rls_guard.specs.rls_catalog.specs.rls_expr.specs.{declared.columns.SelectedTable.SelectedTable, declared.policy.Policy.Policy, Resolving.resolved, Scopes.InScope, Selecting.selected_of, Terms.Term}
use Rattle.rls_recursion.specs.rls_catalog.specs.Privileges.{includes}
use Rattle.rls_guard.specs.{declared.role_privileges.RolePrivileges.RolePrivileges, Naming.names_over}
use Rattle.rls_recursion.specs.{declared.dependency.PolicyDependency.PolicyDependency, declared.listings.PolicySubqueries.PolicySubqueries}
use Rattle.rls_expansion.specs.Used.{Ask, is_for_check, is_for_using}

-- those of an expression that may be left out, over the table and those that were found
abbrev pub selected_if : InScope → List InScope → Option Term → List SelectedTable
selected_if from found (Some term) = selected_of found (resolved term (names_over from found))
selected_if from found None = []

-- ---- those of a statement's own table

-- those of an expression, where it is asked for
abbrev pub selected_where : Bool → InScope → List InScope → Option Term → List SelectedTable
selected_where asked from found term = if asked then selected_if from found term else []

-- those in USING, then those in WITH CHECK, each where some ask is for it
abbrev pub selected_asked : List Ask → InScope → List InScope → Policy → List SelectedTable
selected_asked asks from found policy = selected_where (list_any (is_for_using policy) asks) from found policy.using ++ selected_where (list_any (is_for_check policy) asks) from found policy.check

-- those of a policy that applies to the role
abbrev pub selected_by : Bool → List (List ℕ) → List Ask → InScope → List InScope → Policy → List SelectedTable
selected_by superuser names asks from found policy = if list_any (includes superuser names) policy.to then selected_asked asks from found policy else []

-- those of each policy, in their order
abbrev pub selected_used : Bool → List (List ℕ) → List Ask → InScope → List InScope → List Policy → List SelectedTable
selected_used superuser names asks from found [] = []
selected_used superuser names asks from found (policy ∷ policies) = selected_by superuser names asks from found policy ++ selected_used superuser names asks from found policies

-- ---- those of the tables that chains of policies meet

-- those in USING of each policy, which whoever reads is asked for
abbrev pub selected_read : InScope → List InScope → List Policy → List SelectedTable
selected_read from found [] = []
selected_read from found (policy ∷ policies) = selected_if from found policy.using ++ selected_read from found policies

-- of a table that is there, where some policies count
abbrev pub selected_of_table : List InScope → Option InScope → Option (List Policy) → List SelectedTable
selected_of_table found (Some from) (Some policies) = selected_read from found policies
selected_of_table found (Some from) None = []
selected_of_table found None policies = []

-- the table of a dependency, and the subqueries of its policies
abbrev pub subqueries_of : List InScope → PolicyDependency → PolicySubqueries
subqueries_of found dependency = record { table = dependency.table; selected = selected_of_table found dependency.known dependency.policies }

-- of each of the dependencies
abbrev pub subqueries_in : List InScope → List PolicyDependency → List PolicySubqueries
subqueries_in found dependencies = map (subqueries_of found) dependencies
