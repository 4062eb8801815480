use Rattle.std.proofs.Common.{subst}
use Rattle.rls_script.specs.Requests.{Requests}
use Rattle.rls_script.specs.declared.requesting.Status.{Status}
use Rattle.rls_session.proofs.RuleLemmas.{executes_as}
use Rattle.rls_session.proofs.label.Label.answer.Goals as goal

pub returns-in-Ok-clause-ok : goal.returns-in-Ok-clause-ok
returns-in-Ok-clause-ok g c = executes_as c.args.notes.now c.give.new.notes c.args.self.now c.give.new.self c.args.command.now c.in-Ok.request c.give.result (subst (λ (s : Status). Requests s c.args.command.now c.in-Ok.request) c.status.ensures c.in-Ok.ensures.requests) c.give.ensures.ok
