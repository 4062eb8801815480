use Rattle.std.specs.Prelude.{List}
use Rattle.std.proofs.Common.{sym, subst}
use Rattle.rls_conflict.specs.declared.committed.Committed.{Committed}
use Rattle.rls_conflict.specs.Known.{Known}
use Rattle.rls_conflict.specs.Commits.{IsReady}
use Rattle.rls_conflict.specs.Kept.{AreEntries}
use Rattle.rls_conflict.specs.Dangers.{HasEdges}
use Rattle.rls_conflict.proofs.ReadyLemmas.{has_edges}
use Rattle.rls_conflict.proofs.conflicts.Conflicts.ready.Goals as goal

pub danger_of-requires-clause-entries : goal.danger_of-requires-clause-entries
danger_of-requires-clause-entries c = subst AreEntries (sym c.as_slice.ensures.value) c.self.invariant.entries

pub danger_of-requires-clause-edges : goal.danger_of-requires-clause-edges
danger_of-requires-clause-edges c =
    let ready = subst (λ (known : Known). IsReady known c.args.txn c.in_ok-ready.ready) (sym c.self.view_is) c.in_ok-ready.ensures in
    subst (λ (them : List Committed). HasEdges them c.in_ok-ready.ready) (sym c.as_slice.ensures.value) (has_edges c.self.inside.committed.items c.self.inside.running.entries c.self.inside.sireads c.args.txn c.in_ok-ready.ready ready)
