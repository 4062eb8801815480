use Rattle.std.proofs.Common.{ap, ◌∙◌, subst, arith}
use Rattle.std.specs.Prelude.{◌≤◌, List}
use Rattle.std.specs.Map.{values_of}
use Rattle.std.specs.Vec.{vec_len, vec_capacity}
use Rattle.rls_conflict.specs.declared.committed.Committed.{Committed}
use Rattle.rls_conflict.specs.Known.{Known, running_of}
use Rattle.rls_conflict.specs.Kept.{IsReleased}
use Rattle.rls_conflict.proofs.ReleaseLemmas.{least_within, least_begun}
use Rattle.rls_conflict.proofs.ForgottenLemmas.{run_stays, forgot_kept, forgot_seen}
use Rattle.rls_conflict.proofs.conflicts.Conflicts.forget_old.Goals as goal

pub release_old-requires-clause-within : goal.release_old-requires-clause-within
release_old-requires-clause-within c =
    let least = least_within c.len.result (values_of c.self.inside.running.entries) in
    let is = c.oldest-floor.ensures in
    let len = c.len.ensures in
    let size = c.as_slice.ensures.len in
    omega (arith, least, is, len, size)

pub invariant_of-self : goal.invariant_of-self
invariant_of-self c =
    let least = least_within c.len.result (values_of c.self.inside.running.entries) in
    let is = c.oldest-floor.ensures in
    let len = c.len.ensures in
    let ok = c.self.inside.committed.ok in
    let later = c.if-self-floor.true in
    forgot_kept c.self.inside.committed.items (vec_len c.self.inside.committed) (vec_capacity c.self.inside.committed) c.self.inside.running.entries c.self.inside.sireads c.forget_before.new.self
    c.self.inside.writers c.release_old.new.writers c.self.inside.floor c.oldest-floor.result c.self.invariant (omega (arith, later)) (omega (arith, least, is, len, ok))
    (λ txn it there. let begun = least_begun c.len.result c.self.inside.running.entries txn it there in omega (arith, begun, is))
    c.forget_before.ensures
    (subst (λ (them : List Committed). IsReleased them c.self.inside.floor c.oldest-floor.result c.self.inside.writers c.release_old.new.writers) c.as_slice.ensures.value c.release_old.ensures)

pub returns-then-self-floor-clause-running : goal.returns-then-self-floor-clause-running
returns-then-self-floor-clause-running c = λ txn.
    let later = c.if-self-floor.true in
    let within : c.self.inside.floor ≤ c.oldest-floor.result = omega (arith, later) in
    forgot_seen c.self.inside.running.entries c.self.inside.sireads c.forget_before.new.self
    (run_stays c.self.inside.committed.items c.self.inside.running.entries c.self.inside.sireads c.forget_before.new.self c.self.inside.writers c.release_old.new.writers c.self.inside.floor c.oldest-floor.result
    c.forget_before.ensures
    (subst (λ (them : List Committed). IsReleased them c.self.inside.floor c.oldest-floor.result c.self.inside.writers c.release_old.new.writers) c.as_slice.ensures.value c.release_old.ensures)
    within c.self.invariant.differ c.self.invariant.indexed) txn
    ∙ ap (λ (known : Known). running_of known txn) c.self.view_is
