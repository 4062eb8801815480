use Rattle.std.proofs.Common.{OnOk, subst}
use Rattle.rls_session.specs.Phases.{RunsServed}
use Rattle.rls_session.specs.Works.{Work}
use Rattle.rls_session.proofs.TrackLemmas.{served}
use Rattle.rls_session.proofs.worker.Worker.execute.Goals as goal

pub returns : goal.returns
returns g c =
    subst (λ (w : Work). OnOk c.say.result (RunsServed w.track c.args.command.now c.say.new.self.track)) c.self.view_is
    (served c.say.result c.is_terse-terse.result _ c.say.new.self.track c.args.command.now c.in_ok-answer.answer _ _ _ c.is_terse-terse.ensures c.in_ok-answer.ensures.ok c.in-Ok.ensures c.say.ensures)
