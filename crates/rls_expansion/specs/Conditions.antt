-- The conditions of row checks are the expressions that policies are asked for, resolved.
use Rattle.std.specs.Prelude.{◌≡◌, List, Some}
use Rattle.std.specs.List.{All}
use Rattle.rls_value.specs.declared.verb.Kind.{Kind}
use Rattle.rls_guard.specs.rls_catalog.specs.rls_expr.specs.{declared.policy.Policy.Policy, Resolving.resolved, Scopes.InScope, Terms.Term}
use Rattle.rls_guard.specs.rls_evaluation.specs.declared.relation.SecurityQuals.TheVariants.{Policies}
use Rattle.rls_recursion.specs.rls_catalog.specs.{declared.verdict.Side.Side, Verdict.expression_of}
use Rattle.rls_guard.specs.{declared.quals.RowCheck.RowCheck, Naming.names_over}

-- the condition is the expression that its policy is asked for, with its columns resolved
abbrev pub IsResolved : Kind → Side → InScope → List InScope → Policy × Term → Type 0
IsResolved kind side from found condition = (term : Term) → expression_of condition.0 kind side ≡ Some term → condition.1 ≡ resolved term (names_over from found)

-- each condition of the row check is
abbrev pub AreResolved : InScope → List InScope → RowCheck → Type 0
AreResolved from found row_check = (conditions : List (Policy × Term)) → row_check.quals ≡ Policies conditions → All (IsResolved row_check.kind row_check.side from found) conditions
