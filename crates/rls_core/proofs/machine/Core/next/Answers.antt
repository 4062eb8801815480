use Rattle.std.proofs.Common.{◌≡◌, subst, None}
use Rattle.std.specs.Vec.{vec_capacity}
use Rattle.rls_core.specs.Seen.{Seen, runs_at}
use Rattle.rls_core.proofs.CallLemmas.{is_free}
use Rattle.rls_core.proofs.JoinedLemmas.{joined_there}
use Rattle.rls_core.proofs.machine.Core.next.Goals as goal

pub returns-clause-free : goal.returns-clause-free
returns-clause-free c =
    subst (λ (seen : Seen). runs_at seen c.self.inside.next ≡ None) c.self.view_is
    (joined_there c.self.inside.conflicts c.self.inside.next c.self.inside.running.entries None
    (is_free c.self.inside.committed.items c.self.inside.conflicts c.self.inside.running.entries c.self.inside.next c.self.inside.versions.states (vec_capacity c.self.inside.committed) c.self.inside.versions.room c.self.invariant))
