use Rattle.std.proofs.Common.{◌≡◌, ◌+◌, length, replicate}
use Rattle.rls_check.specs.Plots.{lines_with}
use Rattle.rls_check.proofs.plot.lines_of.Given as goal

-- those that are left lead to what all do; each has its number
abbrev pub invariant-loop-places : goal.invariant-loop-places
invariant-loop-places l = record {
  made : lines_with l.lines.items l.line l.places ≡ lines_with (replicate l.count 0) 0 l.fn.places;
  counted : l.line + length l.places ≡ length l.fn.places;
}

abbrev pub decreases-loop-places : goal.decreases-loop-places
decreases-loop-places l = length l.places
