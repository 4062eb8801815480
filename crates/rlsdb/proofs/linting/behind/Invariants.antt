use Rattle.std.proofs.Common.{◌≡◌, length}
use Rattle.rlsdb.specs.Linting.{behind}
use Rattle.rlsdb.proofs.linting.behind.Given as goal

-- it isn't among those so far
abbrev pub invariant-loop-numbers : goal.invariant-loop-numbers
invariant-loop-numbers l = behind l.txn l.numbers ≡ behind l.txn l.fn.numbers

abbrev pub decreases-loop-numbers : goal.decreases-loop-numbers
decreases-loop-numbers l = length l.numbers
