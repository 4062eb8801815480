use Rattle.std.proofs.Common.{◌<◌, ◌++◌, ◌∷◌, [], List, length, take, map, ap, sym, ◌∙◌, arith, refl, Vec, Global}
use Rattle.std.proofs.lemmas.List.{map_more}
use Rattle.std.proofs.lemmas.Bool.Decides.{nat_tests}
use Rattle.rls_script.specs.Plans.{Task}
use Rattle.rls_session.specs.Phases.{opening_seats}
use Rattle.rls_session.proofs.TrackLemmas.{phases_more, phases_opening}
use Rattle.rls_session.proofs.phases.run_phases.Goals as goal

pub loop-tasks-init : goal.loop-tasks-init
loop-tasks-init g c = (refl, phases_opening _ _ _ _ _ (λ k. record { seats = c.requires.seats k; notes = c.requires.fresh k }))

pub loop-tasks-preserved : goal.loop-tasks-preserved
loop-tasks-preserved g c =
    let within : c.loop-tasks.tasks-index < length c.args.phases.now = grind (arith, nat_tests) in
    let items : Vec Task Global → List Task = λ p. p.items in
    let ok = c.in_ok-run_phase.ensures in (
      ok.ok ∙ c.loop-tasks.invariant.0,
      phases_more _ _ _ _ _ c.as_slice.result.now _ _ _ _ _ c.loop-tasks.invariant.1 ok.text
          (map_more items c.args.phases.now c.loop-tasks.tasks-index c.tasks-item.result within
          ∙ ap (λ (x : List Task). map items (take c.loop-tasks.tasks-index c.args.phases.now) ++ x ∷ []) (sym (c.as_slice.ensures.value ∙ ap items c.tasks-item.is))),
    )
