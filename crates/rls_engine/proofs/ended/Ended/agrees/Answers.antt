use Rattle.std.specs.Prelude.{◌≤◌, length}
use Rattle.std.proofs.Common.{sym, subst}
use Rattle.rls_core.specs.rls_guard.specs.rls_catalog.specs.State.{State}
use Rattle.rls_core.specs.declared.attempt.Attempt.{Attempt}
use Rattle.rls_core.specs.Attempts.{IsShownOn}
use Rattle.rls_core.specs.Records.{state_after}
use Rattle.rls_engine.proofs.ended.Ended.agrees.Goals as goal

pub holds_base-requires-clause-snap : goal.holds_base-requires-clause-snap
holds_base-requires-clause-snap g c = subst (λ (it : Attempt). it.snap ≤ length c.args.book.now.seen.committed) (sym c.self.view_is) c.requires.snap

pub returns : goal.returns
returns g c =
    subst (λ (it : Attempt). IsShownOn (state_after c.args.book.now.seen.committed it.snap) it) c.self.view_is
    (subst (λ (s : State). IsShownOn s c.self.inside.attempt) c.holds_base.ensures c.self.invariant.shown)
