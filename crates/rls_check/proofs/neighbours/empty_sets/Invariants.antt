use Rattle.std.proofs.Common.{◌≡◌, [], replicate}
use Rattle.rls_check.proofs.neighbours.empty_sets.Given as goal

-- so many empty ones so far
abbrev pub invariant-loop-i : goal.invariant-loop-i
invariant-loop-i l = l.sets.items ≡ replicate l.i []
