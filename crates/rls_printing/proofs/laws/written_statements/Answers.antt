use Rattle.rls_printing.proofs.Stating.{written_told}
use Rattle.rls_printing.proofs.laws.written_statements.Goals as goal

pub returns : goal.returns
returns c = λ x tokens h. written_told x tokens h
