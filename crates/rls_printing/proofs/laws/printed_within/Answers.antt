use Rattle.rls_printing.proofs.Shallow.{within_words}
use Rattle.rls_printing.proofs.laws.printed_within.Goals as goal

pub returns : goal.returns
returns c = λ x original tokens h within fit e. within_words x original tokens h within fit e
