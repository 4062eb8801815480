use Rattle.std.proofs.Common.{◌≡◌, ℕ, List, Some, string_bytes}
use Rattle.rls_text.specs.Grammar as g
use Rattle.rls_text.specs.Words.{words_of}
use Rattle.rls_text.specs.declared.token.Token.{Token}
use Rattle.rls_printing.specs.Outputs.{output_of}
use Rattle.rls_printing.specs.ExprForms as expr_form
use Rattle.rls_printing.proofs.Printed.{text_is, words_are, tokens_are, expr_again}
use Rattle.rls_printing.proofs.Writing.{expr_tells}
use Rattle.rls_printing.proofs.printing.print_expr.Goals as goal

pub returns : goal.returns
returns c =
    let x = c.args.expr.now in
    let words = words_of (string_bytes c.into_text.result) in
    let are : (d : ℕ) (ts : List Token) → (g.expr d).rule.prints.writes x ≡ Some ts → words ≡ ts = λ d ts k. words_are (expr_form.expr x) (output_of c.new-buffer.result) (output_of c.put_expr.new.buffer) c.into_text.result ts c.new-buffer.ensures c.in_ok-put_expr.ensures c.into_text.ensures (expr_tells d x ts k) in
    record {
      text = text_is (expr_form.expr x) (output_of c.new-buffer.result) (output_of c.put_expr.new.buffer) c.into_text.result c.new-buffer.ensures c.in_ok-put_expr.ensures c.into_text.ensures;
      tokens = tokens_are (expr_form.expr x) (output_of c.new-buffer.result) (output_of c.put_expr.new.buffer) c.into_text.result c.new-buffer.ensures c.in_ok-put_expr.ensures c.into_text.ensures;
      words = are;
      spelled = λ depth tokens k. expr_again x words tokens depth are k;
    }
