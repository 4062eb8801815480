use Rattle.std.proofs.Common.{◌≡◌, ◌++◌, length, map}
use Rattle.rls_check.specs.GraphSteps.{snap_of}
use Rattle.rls_check.proofs.graph.snaps_of.Given as goal

-- what is made, with what is made of those that are left, is the whole
abbrev pub invariant-loop-transactions : goal.invariant-loop-transactions
invariant-loop-transactions l = l.snaps.items ++ map snap_of l.transactions ≡ map snap_of l.fn.transactions

abbrev pub decreases-loop-transactions : goal.decreases-loop-transactions
decreases-loop-transactions l = length l.transactions
