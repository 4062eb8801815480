use Rattle.std.proofs.Common.{ap, refl}
use Rattle.rls_engine.specs.Views.{Watch}
use Rattle.rls_session.proofs.RuleLemmas.{run_unbegun, started_as}
use Rattle.rls_session.proofs.session.Session.give_run.Goals as goal

pub run_in-requires-clause-started : goal.run_in-requires-clause-started
run_in-requires-clause-started g c = started_as _ _ _ _ c.in-Ok-begin.open c.in-Ok-begin.ensures.ok (ap (λ (w : Watch). w.number) c.seen.ensures) c.in-Ok.ensures

pub returns-in-Err-clause-ok : goal.returns-in-Err-clause-ok
returns-in-Err-clause-ok g c = run_unbegun c.args.notes.now _ c.args.self.now _ c.args.asked c.in-Ok.begin c.in-Err.refusal c.answered.result c.in-Ok.ensures c.in-Err.ensures.why c.answered.ensures.ok refl refl
