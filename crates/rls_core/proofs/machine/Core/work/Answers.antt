use Rattle.rls_core.proofs.ComingLemmas.{is_work}
use Rattle.rls_core.proofs.machine.Core.work.Goals as goal

pub returns-in-Ok-clause-ok : goal.returns-in-Ok-clause-ok
returns-in-Ok-clause-ok c =
    is_work c.args.self.now c.args.txn c.args.statement c.in-Some.it.now c.in-Ok.work c.in-Some.ensures.some c.in-Ok.ensures.asked c.in-Ok.ensures.effect c.in-Ok.ensures.footprint c.in-Ok.ensures.role c.in-Ok.ensures.view
