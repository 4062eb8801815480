-- Row security of a table: its security quals, by the policies that apply to the role.
use Rattle.std.specs.Prelude.{ℕ, List, [], ◌∷◌, Bool, Option, Some, None, if◌then◌else◌}
use Rattle.rls_evaluation.specs.rls_catalog.specs.rls_expr.specs.rls_value.specs.declared.verb.Kind.{Kind}
use Rattle.rls_evaluation.specs.rls_catalog.specs.rls_expr.specs.rls_value.specs.declared.verb.Kind.TheVariants as kinds
use Rattle.rls_evaluation.specs.rls_catalog.specs.rls_expr.specs.{declared.policy.Policy.Policy, Scopes.InScope, Terms.Term, Resolving.resolved}
use Rattle.rls_evaluation.specs.rls_catalog.specs.declared.verdict.Side.{Side}
use Rattle.rls_evaluation.specs.rls_catalog.specs.Verdict.{chosen, expression_of}
use Rattle.rls_evaluation.specs.declared.relation.SecurityQuals.{SecurityQuals}
use Rattle.rls_evaluation.specs.declared.relation.SecurityQuals.TheVariants.{Exempt, Policies}
use Rattle.rls_guard.specs.{declared.role_privileges.RolePrivileges.RolePrivileges, declared.quals.RowCheck.RowCheck, Naming.names_over}

-- the policy with its condition in front of the others, where it has one; its names mean columns of the table, and of the
-- tables that its subqueries name
abbrev pub with_condition : InScope → List InScope → Policy → Option Term → List (Policy × Term) → List (Policy × Term)
with_condition from found policy (Some term) conditions = (policy, resolved term (names_over from found)) ∷ conditions
with_condition from found policy None conditions = conditions

-- each policy with the expression that it is asked for, whose columns are resolved
abbrev pub conditions_of : Kind → Side → InScope → List InScope → List Policy → List (Policy × Term)
conditions_of kind side from found [] = []
conditions_of kind side from found (policy ∷ policies) = with_condition from found policy (expression_of policy kind side) (conditions_of kind side from found policies)

-- the policies that apply to the role, with their conditions
abbrev pub quals_by : RolePrivileges → Kind → Side → InScope → List InScope → List Policy → SecurityQuals
quals_by role_privileges kind side from found policies = Policies (conditions_of kind side from found (chosen role_privileges.effective_roles.superuser role_privileges.effective_roles.names kind side policies))

-- the same, unless no policy counts, since the role is exempt
abbrev pub quals_from : RolePrivileges → Kind → Side → InScope → List InScope → Option (List Policy) → SecurityQuals
quals_from role_privileges kind side from found None = Exempt
quals_from role_privileges kind side from found (Some policies) = quals_by role_privileges kind side from found policies

-- the check of the rows of one side for the role, for a type of command
abbrev pub row_check_by : RolePrivileges → Kind → Side → InScope → List InScope → Option (List Policy) → RowCheck
row_check_by role_privileges kind side from found policies = record { kind = kind; side = side; quals = quals_from role_privileges kind side from found policies }

-- the checks of the rows of one side for the role that a command judges: for its own type and, where it reads, for SELECT
abbrev pub row_checks_by : RolePrivileges → Kind → Bool → InScope → List InScope → Option (List Policy) → Side → List RowCheck
row_checks_by role_privileges kind reads from found policies side =
    row_check_by role_privileges kind side from found policies ∷ (if reads then row_check_by role_privileges kinds.Select side from found policies ∷ [] else [])
