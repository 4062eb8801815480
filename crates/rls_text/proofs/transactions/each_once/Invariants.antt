use Rattle.std.proofs.Common.{◌≡◌, length}
use Rattle.rls_text.specs.Transactions as g
use Rattle.rls_text.proofs.transactions.each_once.Given as goal

-- what is left passes as the whole does
abbrev pub invariant-loop-modes : goal.invariant-loop-modes
invariant-loop-modes l = g.each_once l.modes ≡ g.each_once l.initial.modes

abbrev pub decreases-loop-modes : goal.decreases-loop-modes
decreases-loop-modes l = length l.modes
