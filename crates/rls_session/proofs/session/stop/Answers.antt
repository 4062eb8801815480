use Rattle.rls_session.proofs.TriedLemmas.{stopped_ends}
use Rattle.rls_session.proofs.session.stop.Goals as goal

pub returns-in-Ok-clause-notes : goal.returns-in-Ok-clause-notes
returns-in-Ok-clause-notes g c = stopped_ends c.args.notes.now c.answer_conflict.new.notes c.args.stopped c.in-Over.why c.in-Over.ended c.unanswered.result c.in-Over.is c.unanswered.ensures c.in-Ok.ensures.notes
