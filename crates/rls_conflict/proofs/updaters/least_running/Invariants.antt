use Rattle.std.proofs.Common.{◌≡◌}
use Rattle.std.specs.Prelude.{true, MatchOption}
use Rattle.std.specs.List.{list_any}
use Rattle.std.specs.Map.{keys_of}
use Rattle.rls_conflict.specs.Concurrent.{is_writer_beside}
use Rattle.rls_conflict.proofs.updaters.least_running.Given as goal

-- none so far, so that any is among those that are left; or one of them
abbrev pub invariant-loop-number : goal.invariant-loop-number
invariant-loop-number l = MatchOption l.found
    (list_any (is_writer_beside l.sireads l.writers l.txn l.snap l.object) (keys_of l.running.entries) ≡ list_any (is_writer_beside l.sireads l.writers l.txn l.snap l.object) l.number-iterator)
    (λ number. is_writer_beside l.sireads l.writers l.txn l.snap l.object number ≡ true)
