use Rattle.std.proofs.Common.{◌≡◌, ◌&&◌, length}
use Rattle.rls_text.specs.Values as values
use Rattle.rls_text.proofs.Distinct.{are_new}
use Rattle.rls_text.proofs.tables.are_distinct.Given as goal

-- the whole passes where what is left does, and none of it was seen
abbrev pub invariant-loop-columns : goal.invariant-loop-columns
invariant-loop-columns l = values.are_distinct (values.column_names l.initial.columns) ≡ (are_new l.seen.keys (values.column_names l.columns) && values.are_distinct (values.column_names l.columns))

abbrev pub decreases-loop-columns : goal.decreases-loop-columns
decreases-loop-columns l = length l.columns
