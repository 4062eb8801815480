use Rattle.std.proofs.Common.{◌<◌, ◌≤◌, length, arith}
use Rattle.std.proofs.lemmas.Bool.Decides.{nat_tests}
use Rattle.rls_session.specs.Works.{entered}
use Rattle.rls_session.proofs.TrackLemmas.{over_more, over_all}
use Rattle.rls_session.proofs.phases.enter_all.Goals as goal

pub loop-i-preserved : goal.loop-i-preserved
loop-i-preserved g c =
    let within : c.loop-i.i < length c.args.workers.now = grind (arith, nat_tests) in
    let inside : c.loop-i.i < length c.loop-i.workers = grind (arith, nat_tests) in
    over_more (entered c.args.notes.now) c.args.workers.now c.loop-i.workers c.loop-i.i _ _ within inside c.loop-i.invariant c.enter.ensures

pub returns : goal.returns
returns g c =
    let done : length c.args.workers.now ≤ c.loop-i.i = grind (arith, nat_tests) in
    over_all (entered c.args.notes.now) c.args.workers.now c.loop-i.workers c.loop-i.i done c.loop-i.invariant
