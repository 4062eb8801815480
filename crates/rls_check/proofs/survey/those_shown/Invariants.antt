use Rattle.std.proofs.Common.{◌≡◌, ◌++◌, filter}
use Rattle.std.specs.Vec.Iter.{into_iter_items}
use Rattle.rls_check.specs.Plots.{has_both}
use Rattle.rls_check.proofs.survey.those_shown.Given as goal

-- those so far, and those that are left, are all
abbrev pub invariant-loop-it : goal.invariant-loop-it
invariant-loop-it l = l.kept.items ++ filter (has_both l.tallies) (into_iter_items l.it-iterator) ≡ filter (has_both l.tallies) l.fn.conflicts
