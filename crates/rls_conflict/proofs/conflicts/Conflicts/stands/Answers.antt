use Rattle.std.proofs.Common.{subst}
use Rattle.rls_conflict.specs.Known.{AreFound, HaveBegun}
use Rattle.rls_conflict.proofs.EntryLemmas.{all_found, all_begun}
use Rattle.rls_conflict.proofs.conflicts.Conflicts.stands.Goals as goal

pub returns-clause-found : goal.returns-clause-found
returns-clause-found c =
    subst AreFound c.self.view_is (all_found c.self.inside.committed.items c.self.inside.running.entries c.self.inside.sireads c.iter.ensures.found)

pub returns-clause-begun : goal.returns-clause-begun
returns-clause-begun c =
    subst HaveBegun c.self.view_is (
    all_begun c.self.inside.committed.items c.self.inside.running.entries c.self.inside.sireads c.iter.ensures.found (λ txn it is. (c.self.invariant.snaps txn it is).1) c.self.invariant.entries
    )
