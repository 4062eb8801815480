use Rattle.std.proofs.Common.{◌≡◌, replicate}
use Rattle.rls_check.specs.GraphSteps.{no_work}
use Rattle.rls_check.proofs.works.no_works.Given as goal

-- nothing of so many so far
abbrev pub invariant-loop-i : goal.invariant-loop-i
invariant-loop-i l = l.works.items ≡ replicate l.i no_work
