use Rattle.rls_script.proofs.SpelledLaws.{asked_spelled}
use Rattle.rls_script.proofs.requesting.ask_of.Goals as goal

pub returns-clause-spelled : goal.returns-clause-spelled
returns-clause-spelled c = asked_spelled c.args.status c.in_ok-read.read c.in_ok-asked.asked c.in_ok-asked.ensures c.in_ok-read.ensures.spelled
