use Rattle.rls_command_line.proofs.WordLemmas.{parted, pointless}
use Rattle.rls_command_line.proofs.words.row_of.Goals as goal

pub returns-in-Some : goal.returns-in-Some
returns-in-Some c = parted c.args.text.now c.in-Some.txn c.in-Some.n c.row_with.result c.in-Some.ensures.cases c.row_with.ensures

pub returns-in-None : goal.returns-in-None
returns-in-None c = λ row. pointless c.args.text.now row c.in-None.ensures.cases
