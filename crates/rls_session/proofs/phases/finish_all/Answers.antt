use Rattle.std.proofs.Common.{◌≡◌, ◌<◌, ◌≤◌, length, ap, ◌∙◌, arith, sym}
use Rattle.std.proofs.Math.ListN.{get_or}
use Rattle.std.proofs.lemmas.List.{get_or_default, take_all}
use Rattle.std.proofs.lemmas.Bool.Decides.{nat_tests}
use Rattle.rls_session.specs.Phases.{notes_after, texts_of}
use Rattle.rls_session.specs.Works.{Work, finished, tracks_of}
use Rattle.rls_session.proofs.TrackLemmas.{over_more, over_read, over_all, notes_more, texts_more, whole_more}
use Rattle.rls_session.proofs.phases.finish_all.Goals as goal

pub loop-i-preserved : goal.loop-i-preserved
loop-i-preserved g c =
    let ws = c.args.workers.now in
    let i = c.loop-i.i in
    let d = c.index-workers-i.result in
    let within : i < length ws = grind (arith, nat_tests) in
    let inside : i < length c.loop-i.workers = grind (arith, nat_tests) in
    let w : Work = get_or c.loop-i.workers i d in
    let is : w ≡ get_or ws i w = ap (λ xs. get_or xs i d) c.loop-i.invariant.0 ∙ (over_read finished ws i d within ∙ get_or_default ws i d w within) in
    let ok = c.in_ok-finish.ensures in (
      over_more finished ws c.loop-i.workers i d _ within inside c.loop-i.invariant.0 ok.left,
      notes_more _ _ _ ws i w within is c.loop-i.invariant.1 ok.notes,
      texts_more _ _ _ ws i w within is c.loop-i.invariant.2 ok.text,
      whole_more ws i w within is ok.whole c.loop-i.invariant.3,
      ok.ok ∙ c.loop-i.invariant.4,
    )
