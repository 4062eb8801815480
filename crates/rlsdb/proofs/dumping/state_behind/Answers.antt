use Rattle.std.proofs.Common.{arith, subst, sym}
use Rattle.rls_lint.specs.Naming.{IsNamed}
use Rattle.rlsdb.proofs.DumpLemmas.{behind_all, behind_more, named_more}
use Rattle.rlsdb.proofs.dumping.state_behind.Goals as goal

pub loop-committed-init : goal.loop-committed-init
loop-committed-init c = record {
  within = omega arith;
  state = c.in_ok-state.ensures;
  named = subst (λ s. IsNamed s c.args.named.now) (sym c.in_ok-state.ensures) c.requires;
}

pub loop-committed-preserved : goal.loop-committed-preserved
loop-committed-preserved c =
    let it = c.committed-item.result in
    let before = c.loop-committed in
    record {
      within = omega (arith, before.invariant.within, c.loop-committed-test.true);
      state = behind_more c.args.records.now before.committed-index it before.state c.in_ok-next.next c.loop-committed-test.true c.committed-item.is before.invariant.state c.in_ok-next.ensures;
      named = named_more before.state c.in_ok-next.next it.changes before.named c.follow.new.named before.invariant.named c.in_ok-next.ensures c.in_ok-follow.ensures;
    }

pub returns-clause-state : goal.returns-clause-state
returns-clause-state c = behind_all c.args.records.now c.loop-committed.committed-index c.loop-committed.state c.loop-committed.invariant.within c.loop-committed-test.false c.loop-committed.invariant.state
