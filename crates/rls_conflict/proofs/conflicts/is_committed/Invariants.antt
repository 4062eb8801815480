use Rattle.std.proofs.Common.{◌≡◌, false, take}
use Rattle.std.specs.List.{list_any}
use Rattle.rls_conflict.specs.Kept.{all_committed}
use Rattle.rls_conflict.specs.Known.{has_number}
use Rattle.rls_conflict.proofs.conflicts.is_committed.Given as goal

-- none before has the number
abbrev pub invariant-loop-it : goal.invariant-loop-it
invariant-loop-it l = list_any (has_number l.txn) (all_committed (take l.it-index l.committed)) ≡ false
