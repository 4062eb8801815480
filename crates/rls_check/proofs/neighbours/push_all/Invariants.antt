use Rattle.std.proofs.Common.{◌≡◌, ◌++◌, length}
use Rattle.rls_check.proofs.neighbours.push_all.Given as goal

-- what is made, with what is made of those that are left, is the whole
abbrev pub invariant-loop-more : goal.invariant-loop-more
invariant-loop-more l = l.numbers ++ l.more ≡ l.fn.numbers ++ l.fn.more

abbrev pub decreases-loop-more : goal.decreases-loop-more
decreases-loop-more l = length l.more
