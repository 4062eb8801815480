use Rattle.std.proofs.Common.{◌≡◌, replicate}
use Rattle.std.specs.Prelude.{None}
use Rattle.rls_agreement.proofs.committing.none_waiting.Given as goal

-- none at so many places so far
abbrev pub invariant-loop-i : goal.invariant-loop-i
invariant-loop-i l = l.waiting.items ≡ replicate l.i None
