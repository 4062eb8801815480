use Rattle.std.proofs.Common.{◌≡◌, replicate}
use Rattle.rls_check.proofs.pictures.all_drawn.Given as goal

-- so many so far
abbrev pub invariant-loop-i : goal.invariant-loop-i
invariant-loop-i l = l.all.items ≡ replicate l.i l.drawn
