use Rattle.std.proofs.Common.{◌≡◌, ◌<◌, ℕ, length, ap, ◌∙◌, codes, arith}
use Rattle.std.proofs.Math.ListN.{get_or}
use Rattle.std.proofs.lemmas.Bool.Decides.{nat_tests}
use Rattle.rls_value.specs.declared.refusal.Refusal.{Refusal}
use Rattle.rls_script.specs.Plans.{refusal_of, place_in, standing_of}
use Rattle.rls_script.specs.declared.standing.Standing.{Standing}
use Rattle.rls_session.proofs.TrackLemmas.{late_more}
use Rattle.rls_session.proofs.phases.write_places.Goals as goal

pub loop-place-preserved : goal.loop-place-preserved
loop-place-preserved g c =
    let place : ℕ = get_or c.args.places.now c.loop-place.place-index 0 in
    let within : c.loop-place.place-index < length c.args.places.now = grind (arith, nat_tests) in
    let standing : c.of.result ≡ standing_of (place_in c.args.names.now (codes "?")) place = c.of.ensures ∙ ap (λ (u : ℕ). standing_of u place) c.find-unlabelled.ensures in
    let refusal : c.refusal-refusal.result ≡ refusal_of (standing_of (place_in c.args.names.now (codes "?")) place) = c.refusal-refusal.ensures ∙ ap refusal_of standing in (
      c.in_ok-write_answer.ensures.ok ∙ c.loop-place.invariant.0,
      late_more _ _ _ _ c.args.places.now c.loop-place.place-index _ _ within c.name.ensures refusal c.loop-place.invariant.1 c.in_ok-write_answer.ensures.text,
    )
