-- A comparison of values that stand somewhere already.
use Rattle.std.specs.Prelude.{◌≡◌, Ok}
use Rattle.std.proofs.Common.{ap, ◌∙◌}
use Rattle.rls_value.specs.declared.value.Value.{Value}
use Rattle.rls_value.specs.Values.{value_of_truth}
use Rattle.rls_source.specs.rls_catalog.specs.rls_expr.specs.declared.expr.Comparison.{Comparison}
use Rattle.rls_source.specs.rls_catalog.specs.rls_expr.specs.Terms.{Term, Compare}
use Rattle.rls_source.specs.Readings.{unread, read_then}
use Rattle.rls_evaluation.specs.Environments.{Environment, compared}
use Rattle.rls_evaluation.specs.Eval.{value_of}
use Rattle.rls_evaluation.specs.Plain.{IsPlainly}

-- what compares them has a value, too
pub compared_plainly : (how : Comparison) (a b : Term) (x y : Value) (env : Environment) → IsPlainly a env x → IsPlainly b env y → IsPlainly (Compare how a b) env (value_of_truth (compared how x y))
compared_plainly how a b x y env left right sees s =
    ap (λ r. read_then r (λ v. read_then ((value_of b sees env).in_state s) (λ w. unread (Ok (value_of_truth (compared how v w)))))) (left sees s)
    ∙ ap (λ r. read_then r (λ w. unread (Ok (value_of_truth (compared how x w))))) (right sees s)
