use Rattle.std.proofs.Common.{◌≡◌, [], replicate}
use Rattle.rls_check.proofs.snapshots.no_changes.Given as goal

-- none of so many so far
abbrev pub invariant-loop-i : goal.invariant-loop-i
invariant-loop-i l = l.deltas.items ≡ replicate l.i []
