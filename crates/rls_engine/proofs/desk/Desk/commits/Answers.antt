use Rattle.std.proofs.Common.{sym, subst}
use Rattle.rls_engine.specs.Places.{HasPlace}
use Rattle.rls_engine.proofs.KeepLemmas.{last_placed}
use Rattle.rls_engine.proofs.desk.Desk.commits.Goals as goal

pub returns-clause-placed : goal.returns-clause-placed
returns-clause-placed g c =
    subst (HasPlace g.N.Named.commits) (sym c.commits.ensures) (last_placed g.N.Named.commits c.self.inside.core.committed c.self.inside.tokens.items c.self.invariant.0.placed)
