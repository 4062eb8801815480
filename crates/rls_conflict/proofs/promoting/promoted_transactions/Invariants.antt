use Rattle.std.proofs.Common.{◌≡◌, take}
use Rattle.std.specs.Prelude.{map}
use Rattle.rls_conflict.specs.declared.committed.Committed.{Committed}
use Rattle.rls_conflict.specs.Known.{with_promoted}
use Rattle.rls_conflict.proofs.promoting.promoted_transactions.Given as goal

-- the first are promoted
abbrev pub invariant-loop-it : goal.invariant-loop-it
invariant-loop-it l = l.promoted.items ≡ map (λ (it : Committed). with_promoted l.limit it.transaction) (take l.it-index l.committed)
