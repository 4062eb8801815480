use Rattle.rls_lint.proofs.NullLemmas.{text_printed}
use Rattle.rls_lint.proofs.nulls.printed.Goals as goal

pub returns : goal.returns
returns c = text_printed c.print_expr.result c.args.expr.now c.print_expr.ensures.text
