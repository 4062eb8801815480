use Rattle.rls_core.proofs.RefusalLemmas.{begin_goes, begin_same, begin_answer, begin_stops}
use Rattle.rls_core.proofs.happening.begins.Goals as goal

pub returns-in-Err-clause-ok : goal.returns-in-Err-clause-ok
returns-in-Err-clause-ok c = rw c.stops.ensures (begin_goes c.args.core.now c.begin.new.self c.args.begin c.in-Err.refusal c.in-Err.ensures.why c.in-Err.ensures.err)

pub returns-in-Err-clause-err : goal.returns-in-Err-clause-err
returns-in-Err-clause-err c = rw c.stops.ensures (begin_same c.args.core.now c.begin.new.self c.in-Err.refusal c.in-Err.ensures.err)

pub returns-in-Err-clause-answer : goal.returns-in-Err-clause-answer
returns-in-Err-clause-answer c = rw c.stops.ensures (begin_answer c.args.core.now c.begin.new.self c.args.begin c.in-Err.refusal c.in-Err.ensures.why)

pub returns-in-Err-clause-why : goal.returns-in-Err-clause-why
returns-in-Err-clause-why c = rw c.stops.ensures (begin_stops c.args.core.now c.args.begin c.in-Err.refusal c.in-Err.ensures.why)
