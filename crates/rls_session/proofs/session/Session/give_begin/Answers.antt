use Rattle.std.proofs.Common.{ap}
use Rattle.rls_engine.specs.Views.{Watch}
use Rattle.rls_session.proofs.RuleLemmas.{begin_stopped, carries_begin, started_as}
use Rattle.rls_session.proofs.session.Session.give_begin.Goals as goal

pub returns-in-Ok-begin-clause-ok : goal.returns-in-Ok-begin-clause-ok
returns-in-Ok-begin-clause-ok g c = carries_begin c.args.notes.now c.args.self.now c.put.new.self c.args.mode c.in-Ok-begin.open (started_as _ _ _ _ c.in-Ok-begin.open c.in-Ok-begin.ensures.ok (ap (λ (w : Watch). w.number) c.seen.ensures) c.in-Ok.ensures) c.put.ensures

pub returns-in-Err-clause-ok : goal.returns-in-Err-clause-ok
returns-in-Err-clause-ok g c = begin_stopped c.args.notes.now c.args.self.now c.args.mode c.in-Ok.begin c.in-Err.refusal c.answered.result c.in-Ok.ensures c.in-Err.ensures.why c.answered.ensures.ok
