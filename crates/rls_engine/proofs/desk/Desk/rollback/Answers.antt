use Rattle.rls_core.specs.Events.{Event}
use Rattle.rls_engine.proofs.KeepLemmas.{ended_kept}
use Rattle.rls_engine.proofs.LedLemmas.{led_on}
use Rattle.rls_engine.proofs.desk.Desk.rollback.Goals as goal

pub invariant_of-self : goal.invariant_of-self
invariant_of-self g c = (
  ended_kept _ _ _ _ _ _ _ _ c.self.invariant.0 c.end-left.new.self c.remove.new.self.entries c.args.txn c.end-left.ensures.happens c.remove.ensures.updates.0,
  led_on g.N.Named.asks c.self.inside.core c.end-left.new.self (Event.RollsBack c.args.txn) c.self.invariant.1 c.end-left.ensures.happens tt,
)
