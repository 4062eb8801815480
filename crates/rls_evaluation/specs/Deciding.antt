-- Which policies decide on a row, told one policy after another.
use Rattle.std.specs.Prelude.{◌≡◌, ℕ, List, Bool, Option, Some, Ok, if◌then◌else◌}
use Rattle.rls_value.specs.declared.value.Value.{Value}
use Rattle.rls_value.specs.declared.truth.Truth.{Truth}
use Rattle.rls_source.specs.rls_catalog.specs.rls_expr.specs.declared.policy.Policy.{Policy}
use Rattle.rls_source.specs.rls_catalog.specs.rls_expr.specs.Terms.{Term}
use Rattle.rls_verdict.specs.rls_catalog.specs.State.{State}
use Rattle.rls_verdict.specs.rls_catalog.specs.Verdict.{is_such, lesser, verdict_by}
use Rattle.rls_source.specs.Readings.{unread}
use Rattle.rls_evaluation.specs.declared.relation.SecurityQuals.TheVariants.{Policies}
use Rattle.rls_evaluation.specs.Eval.{Shows}
use Rattle.rls_evaluation.specs.Showing.{verdict_on}

-- the least name so far, with that of a policy if it is permissive, or restrictive, and is true, or isn't
abbrev pub named_if : Bool → Bool → Option (List ℕ) → Policy → Truth → Option (List ℕ)
named_if permissive passes best policy truth = if is_such permissive passes (policy, truth) then Some (lesser best policy.name) else best

-- the policies say of the row what these two names do, whatever tables show, and nothing is read for it
abbrev pub IsDecided : List (Policy × Term) → List ℕ → List Value → Option (List ℕ) → Option (List ℕ) → Type 0
IsDecided conditions user row passing failing = (sees : Shows) (s : State) → (verdict_on (Policies conditions) sees user row).in_state s ≡ unread (Ok (verdict_by passing failing))
