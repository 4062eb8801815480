use Rattle.std.proofs.Common.{length}
use Rattle.rls_history.specs.Orders.{left_below}
use Rattle.rls_conflict.specs.Transactions.{history_of}
use Rattle.rls_conflict.specs.Kept.{all_committed}
use Rattle.rls_conflict.specs.Ordering.{placed_in}
use Rattle.rls_conflict.proofs.TurnLemmas.{IsUnderWay}
use Rattle.rls_conflict.proofs.ordering.ordered.Given as goal

-- the order so far keeps what it has to keep
abbrev pub invariant-loop-first : goal.invariant-loop-first
invariant-loop-first l = IsUnderWay (history_of (all_committed l.committed)) l.lists.items l.placed.items l.order.items l.from

-- how many are left
abbrev pub decreases-loop-first : goal.decreases-loop-first
decreases-loop-first l = left_below (placed_in l.placed.items) (length (all_committed l.committed))
