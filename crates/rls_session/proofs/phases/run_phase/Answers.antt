use Rattle.std.proofs.Common.{◌≡◌, length, sym, arith}
use Rattle.rls_session.proofs.TrackLemmas.{phase_passes}
use Rattle.rls_session.proofs.phases.run_phase.Goals as goal

pub returns-clause-text : goal.returns-clause-text
returns-clause-text g c =
    let ok = c.in_ok-finish_all.ensures in
    let same : length c.run_all.new.workers ≡ length c.enter_all.new.workers = omega (arith, c.run_all.auto.workers) in
    phase_passes c.write_late.result _ _ _ c.args.workers.now c.enter_all.new.workers c.run_all.new.workers c.finish_all.new.workers c.args.tasks.now _ _ _ c.enter_all.ensures same c.run_all.ensures (λ i d below. ok.whole i d below) ok.left ok.notes ok.text c.write_late.ensures.text
