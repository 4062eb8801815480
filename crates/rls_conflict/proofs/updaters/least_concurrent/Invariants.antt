use Rattle.std.proofs.Common.{◌≡◌, take}
use Rattle.std.specs.Prelude.{true, false, MatchOption}
use Rattle.std.specs.List.{list_any}
use Rattle.rls_conflict.specs.Concurrent.{is_concurrent_by, is_that_by}
use Rattle.rls_conflict.proofs.updaters.least_concurrent.Given as goal

-- none among those so far, or one of them
abbrev pub invariant-loop-number : goal.invariant-loop-number
invariant-loop-number l = MatchOption l.found (list_any (is_concurrent_by l.sireads l.txn l.snap) (take l.number-index l.numbers) ≡ false) (λ number. list_any (is_that_by l.sireads l.txn l.snap number) (take l.number-index l.numbers) ≡ true)
