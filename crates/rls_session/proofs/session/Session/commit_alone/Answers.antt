use Rattle.std.proofs.Common.{refl}
use Rattle.rls_session.proofs.RuleLemmas.{commit_stopped}
use Rattle.rls_session.proofs.session.Session.commit_alone.Goals as goal

pub returns-in-Err-clause-ok : goal.returns-in-Err-clause-ok
returns-in-Err-clause-ok g c = commit_stopped c.args.open c.args.answer c.args.notes.now c.commit.new.self c.stop.new.notes _ _ c.in-Err.stopped c.stop.result c.in-Err.ensures.kept c.in-Err.ensures.err c.stop.ensures.ok c.stop.ensures.notes refl
