-- The text of a comparison.
use Rattle.std.proofs.Common.{◌≡◌, String, string_bytes, chars, encode_utf8_all, ℕ, List, true, Result, Ok, Err, IfOk, ap, sym, ◌∙◌}
use Rattle.std.proofs.lemmas.Str.{IsUtf8-string_bytes, chars_from_encodes}
use Rattle.rls_expr.specs.Terms.{Term}
use Rattle.rls_printing.specs.{ExprForms.expr, Outputs.output_tokens_text}

-- a text has the bytes of its characters
printed_bytes : {Z : Type 0} (text : String Z) (characters : List ℕ) → chars (string_bytes text) ≡ characters → string_bytes text ≡ encode_utf8_all characters
printed_bytes text characters are =
    let utf8 = IsUtf8-string_bytes text in
    sym (ap encode_utf8_all (sym are) ∙ (ap encode_utf8_all (sym (chars_from_encodes utf8.0 (string_bytes text) utf8 utf8.1.1)) ∙ utf8.1.1))

-- so does what is printed for an expression
pub text_printed : {Z E : Type 0} (r : Result (String Z) E) (x : Term) → IfOk r (λ text. chars (string_bytes text) ≡ output_tokens_text true (expr x)) → IfOk r (λ text. string_bytes text ≡ encode_utf8_all (output_tokens_text true (expr x)))
text_printed (Ok text) x h = printed_bytes text (output_tokens_text true (expr x)) h
text_printed (Err e) x h = tt
