use Rattle.std.proofs.Common.{◌≡◌, replicate}
use Rattle.rls_check.proofs.plot.zeros.Given as goal

-- so many so far
abbrev pub invariant-loop-i : goal.invariant-loop-i
invariant-loop-i l = l.zeros.items ≡ replicate l.i 0
