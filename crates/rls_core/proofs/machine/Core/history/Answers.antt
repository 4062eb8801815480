use Rattle.std.proofs.Common.{sym, subst}
use Rattle.rls_core.specs.Events.{World}
use Rattle.rls_core.specs.Seen.{Seen, world_of, core_rules}
use Rattle.rls_core.specs.Headline.{HaveOrder, AreExplained, EachFindsSnapshots}
use Rattle.rls_core.proofs.machine.Core.history.Goals as goal

pub returns-clause-ordered : goal.returns-clause-ordered
returns-clause-ordered c =
    subst (λ (seen : Seen). HaveOrder (world_of seen)) c.self.view_is
    (subst HaveOrder (sym c.self.invariant.leads) (c.committed_are_serial.ensures.order core_rules c.core_rules_are_safe.ensures c.self.invariant.events))

pub returns-clause-explained : goal.returns-clause-explained
returns-clause-explained c =
    subst (λ (seen : Seen). AreExplained (world_of seen)) c.self.view_is
    (subst AreExplained (sym c.self.invariant.leads) (c.committed_are_serial.ensures.explains core_rules c.core_rules_are_safe.ensures c.self.invariant.events))

pub returns-clause-found : goal.returns-clause-found
returns-clause-found c =
    subst (λ (seen : Seen). EachFindsSnapshots (world_of seen)) c.self.view_is
    (subst EachFindsSnapshots (sym c.self.invariant.leads) (c.committed_are_serial.ensures.snapshots core_rules c.core_rules_are_safe.ensures c.self.invariant.events))
