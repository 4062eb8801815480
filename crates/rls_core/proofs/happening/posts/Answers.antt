use Rattle.rls_core.proofs.RefusalLemmas.{post_goes, post_same, post_answer, post_stops}
use Rattle.rls_core.proofs.happening.posts.Goals as goal

pub returns-in-Err-clause-ok : goal.returns-in-Err-clause-ok
returns-in-Err-clause-ok c = rw c.stops.ensures (post_goes c.args.core.now c.post.new.self c.args.txn c.args.statement c.in-Err.refusal c.in-Err.ensures.err)

pub returns-in-Err-clause-err : goal.returns-in-Err-clause-err
returns-in-Err-clause-err c = rw c.stops.ensures (post_same c.args.core.now c.post.new.self c.args.txn c.args.statement c.in-Err.refusal c.in-Err.ensures.err)

pub returns-in-Err-clause-answer : goal.returns-in-Err-clause-answer
returns-in-Err-clause-answer c = rw c.stops.ensures (post_answer c.args.core.now c.post.new.self c.args.txn c.args.statement c.in-Err.refusal c.in-Err.ensures.err)

pub returns-in-Err-clause-why : goal.returns-in-Err-clause-why
returns-in-Err-clause-why c = rw c.stops.ensures (post_stops c.args.core.now c.post.new.self c.args.txn c.args.statement c.in-Err.refusal c.in-Err.ensures.err)
