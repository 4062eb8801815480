use Rattle.std.proofs.Common.{◌≡◌, take}
use Rattle.std.specs.Prelude.{true, false, ◌&&◌, nat_eq, MatchOption}
use Rattle.std.specs.List.{list_any}
use Rattle.rls_conflict.specs.declared.committed.Access.TheVariants.{Write}
use Rattle.rls_conflict.specs.Concurrent.{has_accessed}
use Rattle.rls_conflict.proofs.updaters.least_since.Given as goal

-- none among those so far, or one of them
abbrev pub invariant-loop-it : goal.invariant-loop-it
invariant-loop-it l = MatchOption l.found (list_any (has_accessed Write l.object) (take l.it-index l.since) ≡ false) (λ number. list_any (λ it. nat_eq number it.transaction.number && has_accessed Write l.object it) (take l.it-index l.since) ≡ true)
