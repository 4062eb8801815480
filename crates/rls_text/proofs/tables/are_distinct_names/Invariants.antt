use Rattle.std.proofs.Common.{◌≡◌, ◌&&◌, length}
use Rattle.rls_text.specs.Values as values
use Rattle.rls_text.proofs.Distinct.{are_new}
use Rattle.rls_text.proofs.tables.are_distinct_names.Given as goal

-- the whole passes where what is left does, and none of it was seen
abbrev pub invariant-loop-names : goal.invariant-loop-names
invariant-loop-names l = values.are_distinct l.initial.names ≡ (are_new l.seen.keys l.names && values.are_distinct l.names)

abbrev pub decreases-loop-names : goal.decreases-loop-names
decreases-loop-names l = length l.names
