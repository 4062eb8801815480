use Rattle.std.specs.Vec.Iter.{into_iter_items}
use Rattle.std.proofs.Common.{rules, ◌≡◌, ◌∷◌}
use Rattle.rls_check.proofs.SnapshotLemmas.{begun_on}
use Rattle.rls_check.proofs.snapshots.begin_all.Goals as goal

-- one attempt more begins
pub loop-attempt-preserved : goal.loop-attempt-preserved
loop-attempt-preserved c =
    let at = c.loop-attempt in
    let rest = into_iter_items c.next.new.self in
    let next : into_iter_items at.attempt-iterator ≡ c.in-Some.attempt ∷ rest = search rules in
    λ deltas are. begun_on deltas at.begun.items _ _ c.in-Some.attempt (into_iter_items at.attempt-iterator) rest c.args.attempts next (c.in_ok-one.ensures deltas are) c.in_ok-push.ensures.items (at.invariant deltas are)
