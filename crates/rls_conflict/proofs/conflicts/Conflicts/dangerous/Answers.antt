use Rattle.std.specs.Prelude.{List, ℕ, length, IfOk, MatchOption}
use Rattle.std.proofs.Common.{sym, subst}
use Rattle.rls_conflict.specs.declared.committed.Committed.{Committed}
use Rattle.rls_conflict.specs.Transactions.{Transaction}
use Rattle.rls_conflict.specs.Known.{Known, with_commit_of}
use Rattle.rls_conflict.specs.Causes.{IsCauseOf, IsInNoStructure}
use Rattle.rls_conflict.specs.Commits.{IsReady}
use Rattle.rls_conflict.specs.Kept.{AreEntries}
use Rattle.rls_conflict.specs.Dangers.{with_last, HasEdges}
use Rattle.rls_conflict.proofs.ReadyLemmas.{has_edges, told}
use Rattle.rls_conflict.proofs.conflicts.Conflicts.dangerous.Goals as goal

pub danger_of-requires : goal.danger_of-requires
danger_of-requires c =
    let ready = subst (λ (known : Known). IsReady known c.args.txn c.in_ok-ready.ready) (sym c.self.view_is) c.in_ok-ready.ensures in
    record {
      entries = subst AreEntries (sym c.as_slice.ensures.value) c.self.invariant.entries;
      edges = subst (λ (them : List Committed). HasEdges them c.in_ok-ready.ready) (sym c.as_slice.ensures.value) (has_edges c.self.inside.committed.items c.self.inside.running.entries c.self.inside.sireads c.args.txn c.in_ok-ready.ready ready);
    }

pub returns : goal.returns
returns c =
    let ready = subst (λ (known : Known). IsReady known c.args.txn c.in_ok-ready.ready) (sym c.self.view_is) c.in_ok-ready.ensures in
    let told_of = λ (transactions : List Transaction) (place : ℕ). IfOk c.danger_of.result (λ found. MatchOption found (IsInNoStructure transactions place) (IsCauseOf transactions place)) in
    let one = subst (λ (them : List Committed). told_of (with_last them c.in_ok-ready.ready.transaction) (length them)) c.as_slice.ensures.value c.danger_of.ensures in
    subst (λ (known : Known). told_of (with_commit_of known c.args.txn) (length known.committed)) c.self.view_is
    (told told_of c.self.inside.committed.items c.self.inside.running.entries c.self.inside.sireads c.args.txn c.in_ok-ready.ready ready one)
