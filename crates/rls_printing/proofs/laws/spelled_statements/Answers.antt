use Rattle.rls_printing.proofs.SpelledStatements.{spelled_written}
use Rattle.rls_printing.proofs.laws.spelled_statements.Goals as goal

pub returns : goal.returns
returns c = λ tokens x h. let y = spelled_written tokens x h in (y.tokens, y.written)
