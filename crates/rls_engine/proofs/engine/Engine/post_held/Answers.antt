use Rattle.std.proofs.Common.{refl}
use Rattle.rls_engine.proofs.HoldLemmas.{is_step}
use Rattle.rls_engine.proofs.engine.Engine.post_held.Goals as goal

pub returns-in-Ok-clause-ok : goal.returns-in-Ok-clause-ok
returns-in-Ok-clause-ok g c = is_step _ _ _ _ _ _ _ c.in-Ok.ensures.ok refl

pub returns-in-Err-clause-err : goal.returns-in-Err-clause-err
returns-in-Err-clause-err g c = c.ending.ensures c.args.held.now c.args.work.statement _ _ c.in-Err.ensures.err c.in-Err.ensures.left
