use Rattle.rls_session.proofs.RuleLemmas.{connect_stopped}
use Rattle.rls_session.proofs.label.Label.connect.Goals as goal

pub returns-in-Err-clause-ok : goal.returns-in-Err-clause-ok
returns-in-Err-clause-ok g c = connect_stopped c.args.notes.now c.refuse.new.notes c.args.self.now c.refuse.new.self c.args.role c.in-Err.refusal c.refuse.result c.in-Err.ensures.why c.refuse.ensures.ok c.refuse.ensures.nobody c.refuse.ensures.notes
