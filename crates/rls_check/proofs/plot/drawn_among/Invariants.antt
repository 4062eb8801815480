use Rattle.std.proofs.Common.{◌≡◌, ◌++◌, length}
use Rattle.rls_check.specs.Plots.{drawn_from}
use Rattle.rls_check.proofs.plot.drawn_among.Given as goal

-- what is made, with what is made of those that are left, is the whole
abbrev pub invariant-loop-transactions : goal.invariant-loop-transactions
invariant-loop-transactions l = l.drawn.items ++ drawn_from l.few l.arrows l.tallies (length l.drawn.items) l.transactions ≡ drawn_from l.few l.arrows l.tallies 0 l.fn.transactions

abbrev pub decreases-loop-transactions : goal.decreases-loop-transactions
decreases-loop-transactions l = length l.transactions
