use Rattle.std.proofs.Common.{◌≡◌, sym, subst, None}
use Rattle.std.specs.Prelude.{IfOk, IfErr}
use Rattle.std.specs.Vec.{vec_capacity}
use Rattle.rls_core.specs.Seen.{Seen, runs_at}
use Rattle.rls_core.specs.Calls.{IsReady, NotReady}
use Rattle.rls_core.proofs.JoinedLemmas.{joined_there}
use Rattle.rls_core.proofs.CallLemmas.{is_there, sees_newest, all_ready, all_barred}
use Rattle.rls_core.proofs.machine.Core.ready.Goals as goal

pub make-requires-clause-running : goal.make-requires-clause-running
make-requires-clause-running c = is_there c.self.inside.committed.items c.self.inside.conflicts c.self.inside.running.entries c.self.inside.next c.self.inside.versions.states (vec_capacity c.self.inside.committed) c.self.inside.versions.room c.self.invariant c.args.txn c.in-Some.opened.now (sym c.in-Some.ensures.value)

pub make-requires-clause-view : goal.make-requires-clause-view
make-requires-clause-view c = sees_newest c.self.inside.committed.items c.self.inside.conflicts c.self.inside.running.entries c.self.inside.next c.self.inside.versions.states (vec_capacity c.self.inside.committed) c.self.inside.versions.room c.self.invariant c.args.txn c.in-Some.opened.now (sym c.in-Some.ensures.value)

pub returns-in-Some-clause-ok : goal.returns-in-Some-clause-ok
returns-in-Some-clause-ok c =
    subst (λ (seen : Seen). IfOk c.make.result (λ ready. IsReady seen c.args.txn ready)) c.self.view_is
    (all_ready c.self.inside.committed.items c.self.inside.conflicts c.self.inside.running.entries c.self.inside.next c.self.inside.versions.states (vec_capacity c.self.inside.committed) c.self.inside.versions.room c.self.invariant c.args.txn c.in-Some.opened.now (sym c.in-Some.ensures.value) c.structures_are_found.ensures.exactly c.make.result c.make.ensures.commit c.make.ensures.entry c.make.ensures.state c.make.ensures.safe)

pub returns-in-Some-clause-err : goal.returns-in-Some-clause-err
returns-in-Some-clause-err c =
    subst (λ (seen : Seen). IfErr c.make.result (λ why. NotReady seen c.args.txn why)) c.self.view_is
    (all_barred c.self.inside.committed.items c.self.inside.conflicts c.self.inside.running.entries c.self.inside.next c.self.inside.versions.states (vec_capacity c.self.inside.committed) c.self.inside.versions.room c.self.invariant c.args.txn c.in-Some.opened.now (sym c.in-Some.ensures.value) c.structures_are_found.ensures.exactly c.structures_are_found.ensures.caused c.make.result c.make.ensures.err)

pub returns-in-None-clause-err : goal.returns-in-None-clause-err
returns-in-None-clause-err c =
    subst (λ (seen : Seen). runs_at seen c.args.txn ≡ None) c.self.view_is (joined_there c.self.inside.conflicts c.args.txn c.self.inside.running.entries None (sym c.in-None.ensures.value))
