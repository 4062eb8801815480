use Rattle.std.proofs.Common.{◌≡◌, length}
use Rattle.rls_text.specs.Transactions as g
use Rattle.rls_text.proofs.transactions.access_of.Given as goal

-- what is left says what the whole says
abbrev pub invariant-loop-modes : goal.invariant-loop-modes
invariant-loop-modes l = g.access_of l.modes ≡ g.access_of l.initial.modes

abbrev pub decreases-loop-modes : goal.decreases-loop-modes
decreases-loop-modes l = length l.modes
