use Rattle.std.specs.Prelude.{◌≡◌, ℕ, refl, length}
use Rattle.std.proofs.Common.{arith, subst}
use Rattle.std.proofs.lemmas.Option.{slice_get_read}
use Rattle.rls_conflict.specs.Kept.{IsReleased}
use Rattle.rls_conflict.proofs.ReleaseLemmas.{released_none, released_next}
use Rattle.rls_conflict.proofs.forgetting.release_old.Goals as goal

pub loop-place-init : goal.loop-place-init
loop-place-init c = released_none c.args.committed.now c.args.from c.args.writers.now

pub loop-place-preserved : goal.loop-place-preserved
loop-place-preserved c =
    released_next c.args.committed.now c.args.from c.loop-place.place c.args.writers.now c.loop-place.writers c.release_one.new.writers c.index-committed-place.result
    (slice_get_read c.args.committed.now (length c.args.committed.now) c.loop-place.place c.index-committed-place.result refl (omega arith) c.index-committed-place.is)
    c.loop-place.auto.place c.loop-place.invariant c.release_one.ensures

pub returns : goal.returns
returns c =
    let at_end : c.loop-place.place ≡ c.args.to = omega arith in
    subst (λ (n : ℕ). IsReleased c.args.committed.now c.args.from n c.args.writers.now c.loop-place.writers) at_end c.loop-place.invariant
