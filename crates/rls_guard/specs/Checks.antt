-- What a statement is checked for: who may, and what is supported.
use Rattle.std.specs.Prelude.{ℕ, List, Bool, false, ◌||◌, Result, Ok, Err, if◌then◌else◌}
use Rattle.rls_evaluation.specs.rls_catalog.specs.rls_expr.specs.rls_value.specs.declared.refusal.Refusal.{Refusal}
use Rattle.rls_evaluation.specs.rls_catalog.specs.rls_expr.specs.rls_value.specs.declared.refusal.Refusal.TheVariants.{Denied}
use Rattle.rls_evaluation.specs.rls_catalog.specs.rls_expr.specs.rls_value.specs.declared.refusal.Why.TheVariants.{Admin}
use Rattle.rls_evaluation.specs.rls_catalog.specs.rls_expr.specs.Parts.{has_query, has_sum}
use Rattle.rls_evaluation.specs.rls_catalog.specs.rls_expr.specs.Terms.{Term}
use Rattle.rls_evaluation.specs.rls_catalog.specs.Membership.{attributes_in}
use Rattle.rls_evaluation.specs.rls_source.specs.Askings.{Asking, known, followed_by}
use Rattle.rls_evaluation.specs.rls_source.specs.Asked.{asked_role}
use Rattle.rls_guard.specs.Support as support

-- the role has to be a superuser, to manage the other
abbrev pub superuser_or_denied : List ℕ → List ℕ → Asking (Unit {0})
superuser_or_denied role managed = followed_by (asked_role role) (λ found.
    known (if (attributes_in found).superuser then Ok tt else Err (Denied (Admin managed))))

-- where no sum may stand: everywhere but in what a column is set to
abbrev pub is_unsupported : Term → Bool
is_unsupported term = support.is_unsupported false term

-- an item that is listed has no subquery either
abbrev pub is_unsupported_item : Term → Bool
is_unsupported_item term = has_sum term || has_query term
