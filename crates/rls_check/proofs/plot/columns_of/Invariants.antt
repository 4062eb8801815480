use Rattle.std.proofs.Common.{◌≡◌, ◌++◌, ◌+◌, ◌≤◌, length}
use Rattle.rls_check.specs.Plots.{columns_from}
use Rattle.rls_check.proofs.plot.columns_of.Given as goal

-- what is made, with what is made of those that are left, is the whole; none is counted twice
abbrev pub invariant-loop-drawn : goal.invariant-loop-drawn
invariant-loop-drawn l = record {
  made : l.columns.items ++ columns_from l.column l.drawn ≡ columns_from 0 l.fn.drawn;
  bound : l.column + length l.drawn ≤ length l.fn.drawn;
}

abbrev pub decreases-loop-drawn : goal.decreases-loop-drawn
decreases-loop-drawn l = length l.drawn
