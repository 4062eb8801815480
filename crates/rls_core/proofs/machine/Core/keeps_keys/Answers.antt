use Rattle.std.proofs.Common.{subst}
use Rattle.std.specs.Vec.{vec_capacity}
use Rattle.rls_catalog.specs.SoundRows.{RowsAreSound}
use Rattle.rls_core.specs.Seen.{Seen, newest_state}
use Rattle.rls_core.proofs.CallLemmas.{newest_sound}
use Rattle.rls_core.proofs.machine.Core.keeps_keys.Goals as goal

pub returns : goal.returns
returns c =
    subst (λ (seen : Seen). RowsAreSound (newest_state seen.committed)) c.self.view_is
    (newest_sound c.self.inside.committed.items c.self.inside.conflicts c.self.inside.running.entries c.self.inside.next c.self.inside.versions.states (vec_capacity c.self.inside.committed) c.self.inside.versions.room c.self.invariant
    c.core_rules_are_safe.ensures c.events_keep.ensures.keys)
