use Rattle.rls_session.proofs.TriedLemmas.{attempted_more, told_also}
use Rattle.rls_session.proofs.notes.attempted.Goals as goal

pub loop-one-preserved : goal.loop-one-preserved
loop-one-preserved g c =
    let at = c.loop-one in
    let ended = c.in_ok-ended in
    record {
      same = attempted_more at.all.items c.push.new.self.items ended.ended at.yielded c.in-Some.one c.in_ok-push.ensures.items at.invariant.same ended.ensures.same;
      told = told_also c.args.book.now.seen.committed at.yielded ended.ended c.in-Some.one at.invariant.told ended.ensures.same ended.ensures.told;
    }
