use Rattle.rls_conflict.specs.Kept.{IsReleased}
use Rattle.rls_conflict.proofs.forgetting.release_old.Given as goal

-- so far they hold nothing
abbrev pub invariant-loop-place : goal.invariant-loop-place
invariant-loop-place l = IsReleased l.committed l.from l.place l.fn.writers l.writers
