use Rattle.std.proofs.Common.{◌<◌, length, arith}
use Rattle.rls_session.proofs.TrackLemmas.{seat_opened, seats_more}
use Rattle.rls_session.proofs.phases.add_workers.Goals as goal

pub loop-place-preserved : goal.loop-place-preserved
loop-place-preserved g c =
    let place = c.loop-place.place in
    let list = c.as_slice-list.result.now in
    let within : place < length list = omega (arith, c.min-place-end.ensures, c.loop-place-test.true) in
    let seat = seat_opened list _ c.args.names.now c.find-unlabelled.result place c.new.result within c.as_slice-list.ensures c.find-unlabelled.ensures c.new.ensures in (
      seats_more c.args.names.now place _ _ c.new.result c.loop-place.invariant.0 seat c.push_reserved.ensures.items,
      omega (arith, c.push_reserved.ensures.len, c.loop-place.invariant.1),
      omega (arith, c.push_reserved.ensures.capacity, c.loop-place.invariant.2),
    )
