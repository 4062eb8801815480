use Rattle.std.proofs.Common.{◌≡◌, sym, subst, Some, None}
use Rattle.rls_conflict.specs.Begun.{at_number}
use Rattle.rls_conflict.specs.Known.{running_at}
use Rattle.rls_core.specs.Seen.{Seen, runs_at}
use Rattle.rls_core.specs.Calls.{RunsOn}
use Rattle.rls_core.proofs.JoinedLemmas.{joined_there}
use Rattle.rls_core.proofs.machine.Core.find.Goals as goal

pub returns-in-Some-clause-some : goal.returns-in-Some-clause-some
returns-in-Some-clause-some c =
    let found : at_number c.args.txn c.self.inside.running.entries ≡ Some c.in-Some.it.now = sym c.in-Some.ensures.value in
    subst (λ (seen : Seen). RunsOn seen c.args.txn c.in-Some.it.now) c.self.view_is
    (record {
      known = running_at c.self.inside.conflicts c.args.txn;
      runs = joined_there c.self.inside.conflicts c.args.txn c.self.inside.running.entries (Some c.in-Some.it.now) found;
      view = c.self.invariant.views_are c.args.txn c.in-Some.it.now found;
    })

pub returns-in-None-clause-none : goal.returns-in-None-clause-none
returns-in-None-clause-none c =
    let found : at_number c.args.txn c.self.inside.running.entries ≡ None = sym c.in-None.ensures.value in
    subst (λ (seen : Seen). runs_at seen c.args.txn ≡ None) c.self.view_is (joined_there c.self.inside.conflicts c.args.txn c.self.inside.running.entries None found)
