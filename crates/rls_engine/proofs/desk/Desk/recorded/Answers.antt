use Rattle.std.proofs.Common.{subst}
use Rattle.rls_core.specs.Headline.{RunAsRecorded}
use Rattle.rls_core.specs.Seen.{world_of}
use Rattle.rls_engine.specs.Views.{Kept}
use Rattle.rls_engine.proofs.AttemptLemmas.{led_recorded}
use Rattle.rls_engine.proofs.desk.Desk.recorded.Goals as goal

pub returns : goal.returns
returns g c =
    subst (λ (k : Kept). RunAsRecorded (world_of k.seen)) c.self.view_is
    (led_recorded g.N.Named.asks c.self.inside.core c.core_rules_are_safe.ensures c.events_keep.ensures.running c.self.invariant.1)
