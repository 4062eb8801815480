-- What is written of the parts of a condition.
use Rattle.std.specs.Prelude.{◌≡◌, refl, ◌++◌, ℕ, zero, suc, List, codes}
use Rattle.std.specs.List.{repeat}
use Rattle.std.proofs.Common.{String, string_bytes, chars, true, Result, Ok, Err, IfOk, ap, ◌∙◌, append_assoc}
use Rattle.rls_expr.specs.Terms.{Term}
use Rattle.rls_audit.proofs.ShowingLemmas.{printed_bytes}
use Rattle.rls_audit.specs.rls_printing.specs.ExprForms as form
use Rattle.rls_audit.specs.rls_printing.specs.Outputs.{output_tokens_text}
use Rattle.rls_check.specs.LongParts.{expr_text, indent}

-- an expression as it is printed
pub expr_printed : {Z E : Type 0} (r : Result (String Z) E) (t : Term) → IfOk r (λ text. chars (string_bytes text) ≡ output_tokens_text true (form.expr t)) → IfOk r (λ text. string_bytes text ≡ expr_text t)
expr_printed (Ok text) t h = printed_bytes text (output_tokens_text true (form.expr t)) h
expr_printed (Err e) t h = tt

-- two blanks behind as many more are the indent
pub indent_repeated : (level : ℕ) → repeat level (codes "  ") ++ codes "  " ≡ indent level
indent_repeated zero = refl
indent_repeated (suc level) = append_assoc (codes "  ") (repeat level (codes "  ")) (codes "  ") ∙ ap (λ (blanks : List ℕ). codes "  " ++ blanks) (indent_repeated level)
