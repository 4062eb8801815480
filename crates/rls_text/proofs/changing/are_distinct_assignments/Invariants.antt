use Rattle.std.proofs.Common.{◌≡◌, ◌&&◌, length}
use Rattle.rls_text.specs.Values as values
use Rattle.rls_text.proofs.Distinct.{are_new}
use Rattle.rls_text.proofs.changing.are_distinct_assignments.Given as goal

-- the whole passes where what is left does, and none of it was seen
abbrev pub invariant-loop-assignments : goal.invariant-loop-assignments
invariant-loop-assignments l = values.are_distinct (values.set_names l.initial.assignments) ≡ (are_new l.seen.keys (values.set_names l.assignments) && values.are_distinct (values.set_names l.assignments))

abbrev pub decreases-loop-assignments : goal.decreases-loop-assignments
decreases-loop-assignments l = length l.assignments
