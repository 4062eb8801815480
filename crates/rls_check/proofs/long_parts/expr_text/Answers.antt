use Rattle.rls_check.proofs.LongPartLemmas.{expr_printed}
use Rattle.rls_check.proofs.long_parts.expr_text.Goals as goal

pub returns : goal.returns
returns c = expr_printed c.print_expr.result c.args.expr.now c.print_expr.ensures.text
