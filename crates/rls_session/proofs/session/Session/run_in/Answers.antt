use Rattle.std.proofs.Common.{refl}
use Rattle.rls_session.proofs.RuleLemmas.{run_committed, run_stopped}
use Rattle.rls_session.proofs.session.Session.run_in.Goals as goal

pub returns-in-Ok-clause-ok : goal.returns-in-Ok-clause-ok
returns-in-Ok-clause-ok g c = run_committed c.args.notes.now c.commit_alone.new.notes c.args.self.now c.commit_alone.new.self c.args.asked c.args.open _ _ c.tag.result c.answer_of-answer.result c.commit_alone.result c.requires.started c.in-Ok.ensures.ok c.tag.ensures c.answer_of-answer.ensures c.commit_alone.ensures.ok

pub returns-in-Err-clause-ok : goal.returns-in-Err-clause-ok
returns-in-Err-clause-ok g c = run_stopped c.args.notes.now c.stop.new.notes c.args.self.now _ c.args.asked c.args.open c.stop.result c.requires.started c.stop.ensures.ok (c.stop.ensures.notes c.args.open c.in-Err.ensures.err) refl
