use Rattle.rls_printing.proofs.Printed.{tokens_spell, read_again}
use Rattle.rls_printing.proofs.laws.read_again.Goals as goal

pub returns : goal.returns
returns c = λ x original words answer h fit e k. read_again x original words answer h (tokens_spell x original words h.spelled e) fit e k
