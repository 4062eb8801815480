-- What row checks hold is resolved.
use Rattle.std.specs.Prelude.{◌≡◌, refl, List, [], ◌∷◌, Bool, true, false, Option, Some, None}
use Rattle.std.specs.List.{All}
use Rattle.std.proofs.Common.{ap, sym, ◌∙◌, subst}
use Rattle.std.proofs.lemmas.Bool.{true≢false}
use Rattle.std.proofs.lemmas.List.Elements.{All-nil, All-cons}
use Rattle.rls_value.specs.declared.verb.Kind.{Kind}
use Rattle.rls_value.specs.declared.verb.Kind.TheVariants as kinds
use Rattle.rls_guard.specs.rls_catalog.specs.rls_expr.specs.{declared.policy.Policy.Policy, Resolving.resolved, Scopes.InScope, Terms.Term}
use Rattle.rls_guard.specs.rls_evaluation.specs.declared.relation.SecurityQuals.{SecurityQuals}
use Rattle.rls_guard.specs.rls_evaluation.specs.declared.relation.SecurityQuals.TheVariants.{Exempt, Policies}
use Rattle.rls_recursion.specs.rls_catalog.specs.{declared.verdict.Side.Side, Verdict.expression_of}
use Rattle.rls_guard.specs.{declared.quals.RowCheck.RowCheck, declared.role_privileges.RolePrivileges.RolePrivileges, Naming.names_over}
use Rattle.rls_guard.specs.SecurityQuals.{conditions_of, with_condition, row_check_by, row_checks_by}
use Rattle.rls_expansion.specs.Conditions.{IsResolved, AreResolved}
use Rattle.rls_expansion.specs.Expanding.{row_checks_if}

same_term : (a b : Term) → Some a ≡ Some b → a ≡ b
same_term a b is = ap (elim [ None ↦ a | Some t ↦ t ]) is

same_conditions : (a b : List (Policy × Term)) → Policies a ≡ Policies b → a ≡ b
same_conditions a b is = ap (elim [ Exempt ↦ a | Policies cs ↦ cs ]) is

abbrev has_policies : SecurityQuals → Bool
has_policies Exempt = false
has_policies (Policies conditions) = true

one_resolved : (kind : Kind) (side : Side) (from : InScope) (found : List InScope) (policy : Policy) (expr : Option Term) (conditions : List (Policy × Term))
    → expression_of policy kind side ≡ expr → All (IsResolved kind side from found) conditions → All (IsResolved kind side from found) (with_condition from found policy expr conditions)
one_resolved kind side from found policy (Some term) conditions is h =
    All-cons (IsResolved kind side from found) (policy, resolved term (names_over from found)) conditions (λ other other_is. ap (λ t. resolved t (names_over from found)) (same_term term other (sym is ∙ other_is))) h
one_resolved kind side from found policy None conditions is h = h

conditions_resolved : (kind : Kind) (side : Side) (from : InScope) (found : List InScope) (policies : List Policy) → All (IsResolved kind side from found) (conditions_of kind side from found policies)
conditions_resolved kind side from found [] = All-nil (IsResolved kind side from found)
conditions_resolved kind side from found (policy ∷ policies) =
    one_resolved kind side from found policy (expression_of policy kind side) (conditions_of kind side from found policies) refl (conditions_resolved kind side from found policies)

row_check_resolved : (role_privileges : RolePrivileges) (kind : Kind) (side : Side) (from : InScope) (found : List InScope) (policies : Option (List Policy)) → AreResolved from found (row_check_by role_privileges kind side from found policies)
row_check_resolved role_privileges kind side from found None conditions is = absurd (true≢false (ap has_policies (sym is)))
row_check_resolved role_privileges kind side from found (Some policies) conditions is =
    subst (All (IsResolved kind side from found)) (same_conditions _ conditions is) (conditions_resolved kind side from found _)

row_checks_resolved : (role_privileges : RolePrivileges) (kind : Kind) (reads : Bool) (from : InScope) (found : List InScope) (policies : Option (List Policy)) (side : Side) → All (AreResolved from found) (row_checks_by role_privileges kind reads from found policies side)
row_checks_resolved role_privileges kind false from found policies side =
    All-cons (AreResolved from found) (row_check_by role_privileges kind side from found policies) [] (row_check_resolved role_privileges kind side from found policies) (All-nil (AreResolved from found))
row_checks_resolved role_privileges kind true from found policies side =
    All-cons (AreResolved from found) (row_check_by role_privileges kind side from found policies) (row_check_by role_privileges kinds.Select side from found policies ∷ []) (row_check_resolved role_privileges kind side from found policies)
    (All-cons (AreResolved from found) (row_check_by role_privileges kinds.Select side from found policies) [] (row_check_resolved role_privileges kinds.Select side from found policies) (All-nil (AreResolved from found)))

-- the row checks of a side are resolved
pub side_resolved : (row_checks : List RowCheck) (judges : Bool) (role_privileges : RolePrivileges) (kind : Kind) (reads : Bool) (from : InScope) (found : List InScope) (policies : Option (List Policy)) (side : Side)
    → row_checks ≡ row_checks_if judges role_privileges kind reads from found policies side → All (AreResolved from found) row_checks
side_resolved row_checks false role_privileges kind reads from found policies side is = subst (All (AreResolved from found)) (sym is) (All-nil (AreResolved from found))
side_resolved row_checks true role_privileges kind reads from found policies side is = subst (All (AreResolved from found)) (sym is) (row_checks_resolved role_privileges kind reads from found policies side)
