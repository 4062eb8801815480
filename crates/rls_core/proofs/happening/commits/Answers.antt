use Rattle.rls_core.proofs.RefusalLemmas.{commit_goes, commit_same, commit_answer, commit_stops}
use Rattle.rls_core.proofs.happening.commits.Goals as goal

pub returns-in-Err-clause-ok : goal.returns-in-Err-clause-ok
returns-in-Err-clause-ok c = rw c.stops.ensures (commit_goes c.args.core.now c.commit.new.self c.args.txn c.in-Err.refusal c.in-Err.ensures.err)

pub returns-in-Err-clause-err : goal.returns-in-Err-clause-err
returns-in-Err-clause-err c = rw c.stops.ensures (commit_same c.args.core.now c.commit.new.self c.args.txn c.in-Err.refusal c.in-Err.ensures.err)

pub returns-in-Err-clause-answer : goal.returns-in-Err-clause-answer
returns-in-Err-clause-answer c = rw c.stops.ensures (commit_answer c.args.core.now c.commit.new.self c.args.txn c.in-Err.refusal c.in-Err.ensures.err)

pub returns-in-Err-clause-why : goal.returns-in-Err-clause-why
returns-in-Err-clause-why c = rw c.stops.ensures (commit_stops c.args.core.now c.commit.new.self c.args.txn c.in-Err.refusal c.in-Err.ensures.err)
