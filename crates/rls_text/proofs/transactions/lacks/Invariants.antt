use Rattle.std.proofs.Common.{◌≡◌, length}
use Rattle.rls_text.specs.Transactions as g
use Rattle.rls_text.proofs.transactions.lacks.Given as goal

-- what is left lacks it as the whole does
abbrev pub invariant-loop-others : goal.invariant-loop-others
invariant-loop-others l = g.lacks l.mode l.others ≡ g.lacks l.mode l.initial.others

abbrev pub decreases-loop-others : goal.decreases-loop-others
decreases-loop-others l = length l.others
