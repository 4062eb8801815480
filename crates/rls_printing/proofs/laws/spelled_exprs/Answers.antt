use Rattle.rls_printing.proofs.SpelledExprs.{expr_written}
use Rattle.rls_printing.proofs.laws.spelled_exprs.Goals as goal

pub returns : goal.returns
returns c = λ depth x tokens h. let y = expr_written depth x tokens h in (y.tokens, y.written)
