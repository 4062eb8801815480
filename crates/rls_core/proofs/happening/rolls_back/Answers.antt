use Rattle.rls_core.proofs.RefusalLemmas.{not_ended}
use Rattle.rls_core.proofs.happening.rolls_back.Goals as goal

pub returns-in-Err-clause-answer : goal.returns-in-Err-clause-answer
returns-in-Err-clause-answer c = (not_ended c.args.core.now c.args.txn c.in-Err.refusal c.in-Err.ensures.why, c.in-Err.ensures.why)
