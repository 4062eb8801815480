use Rattle.std.proofs.Common.{subst}
use Rattle.std.specs.Prelude.{IfSome}
use Rattle.rls_check.specs.declared.walking.Turn.{Turn}
use Rattle.rls_check.specs.Walking.{IsNext, left}
use Rattle.rls_check.proofs.GraphWorkLemmas.{found_on}
use Rattle.rls_check.proofs.SnapshotLemmas.{put_on}
use Rattle.rls_check.proofs.snapshots.put_all.Goals as goal

-- one statement's changes more are put, and what it comes to is compared
pub loop-turn-preserved : goal.loop-turn-preserved
loop-turn-preserved c =
    let turn = c.in-Some.turn in
    let before = left c.loop-turn.walk in
    let after = left c.next.new.self in
    let next : IsNext before turn after = subst (λ found. IfSome found (λ (turn : Turn). IsNext before turn after)) c.in-Some.is c.in_ok-turn.ensures.turn in
    record {
      deltas = put_on turn before after c.loop-turn.deltas.items _ _ next c.in_ok-put_turn.ensures c.loop-turn.invariant.deltas;
      differs = found_on turn before after (left c.args.walk.now) c.loop-turn.found c.first_of-found.result next c.first_of-found.ensures c.loop-turn.invariant.differs;
    }
