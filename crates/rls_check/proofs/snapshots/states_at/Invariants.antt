use Rattle.std.proofs.Common.{◌≡◌, ◌++◌, length}
use Rattle.rls_catalog.specs.Changed.{opening}
use Rattle.rls_check.specs.Snapshots.{states_on}
use Rattle.rls_check.proofs.snapshots.states_at.Given as goal

-- those so far, and those from the state on, are all
abbrev pub invariant-loop-asked : goal.invariant-loop-asked
invariant-loop-asked l = l.kept.items ++ states_on l.state l.deltas l.asked ≡ states_on opening l.fn.deltas l.fn.asked

abbrev pub decreases-loop-asked : goal.decreases-loop-asked
decreases-loop-asked l = length l.asked
